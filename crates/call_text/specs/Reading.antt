-- How a call is read: by the words after its class.
use Rattle.std.specs.Prelude.{ℕ, List, [], ◌∷◌, Bool, ◌==◌, Option, Some, None, if◌then◌else◌}
use Rattle.std.specs.Option.{option_map}
use Rattle.usb_pipe.specs.declared.call.CdcDeviceCall.{CdcDeviceCall}
use Rattle.usb_pipe.specs.declared.call.CdcDeviceCall.TheVariants as cdc
use Rattle.usb_pipe.specs.declared.call.HidDeviceCall.{HidDeviceCall}
use Rattle.usb_pipe.specs.declared.call.HidDeviceCall.TheVariants as hid
use Rattle.usb_pipe.specs.declared.call.MscDeviceCall.{MscDeviceCall}
use Rattle.usb_pipe.specs.declared.call.MscDeviceCall.TheVariants as msc
use Rattle.usb_pipe.specs.declared.call.MidiCall.{MidiCall}
use Rattle.usb_pipe.specs.declared.call.MidiCall.TheVariants as midi
use Rattle.usb_words.specs.Field.{none_left, one, bytes_word, number_word}
use Rattle.line_rules.specs.declared.kinds.Class.{Class}
use Rattle.line_rules.specs.declared.kinds.Class.TheVariants as class
use Rattle.line_rules.specs.declared.kinds.CdcKind.{CdcKind}
use Rattle.line_rules.specs.declared.kinds.CdcKind.TheVariants as cdc_kind
use Rattle.line_rules.specs.declared.kinds.HidKind.{HidKind}
use Rattle.line_rules.specs.declared.kinds.HidKind.TheVariants as hid_kind
use Rattle.line_rules.specs.declared.kinds.MscKind.{MscKind}
use Rattle.line_rules.specs.declared.kinds.MscKind.TheVariants as msc_kind
use Rattle.line_rules.specs.declared.kinds.MidiKind.{MidiKind}
use Rattle.line_rules.specs.declared.kinds.MidiKind.TheVariants as midi_kind
use Rattle.line_rules.specs.Kinds.{cdc_kind_of, hid_kind_of, msc_kind_of, midi_kind_of}
use Rattle.device_line.specs.declared.call.DevCall.{DevCall}
use Rattle.device_line.specs.declared.call.DevCall.TheVariants.{Cdc, Hid, Msc, Midi}
use Rattle.call_text.specs.Call.{most_transfer, most_report, most_state}

-- a call with no word after its name
abbrev pub bare : {A : Type 0} → List (List ℕ) → A → Option A
bare fields call = if none_left fields then Some call else None

abbrev pub cdc_fields : Option CdcKind → List (List ℕ) → Option CdcDeviceCall
cdc_fields None fields = None
cdc_fields (Some cdc_kind.Write) fields = option_map (λ bytes. cdc.Write (record { items = bytes })) (bytes_word 1 most_transfer (one fields))
cdc_fields (Some cdc_kind.Read) fields = option_map (λ n. cdc.Read n) (number_word 1 most_transfer (one fields))
cdc_fields (Some cdc_kind.Flush) fields = bare fields cdc.Flush
cdc_fields (Some cdc_kind.Avail) fields = bare fields cdc.Avail
cdc_fields (Some cdc_kind.Line) fields = bare fields cdc.Line
cdc_fields (Some cdc_kind.Notify) fields = option_map (λ n. cdc.Notify n) (number_word 0 most_state (one fields))

abbrev pub hid_fields : Option HidKind → List (List ℕ) → Option HidDeviceCall
hid_fields None fields = None
hid_fields (Some hid_kind.Report) fields = option_map (λ bytes. hid.Report (record { items = bytes })) (bytes_word 1 most_report (one fields))
hid_fields (Some hid_kind.Take) fields = bare fields hid.Take
hid_fields (Some hid_kind.Set) fields = bare fields hid.Set
hid_fields (Some hid_kind.Idle) fields = bare fields hid.Idle

-- 1 where it is so, and 0 where not
abbrev pub flag : ℕ → Bool
flag n = n == 1

abbrev pub msc_fields : Option MscKind → List (List ℕ) → Option MscDeviceCall
msc_fields None fields = None
msc_fields (Some msc_kind.Eject) fields = bare fields msc.Eject
msc_fields (Some msc_kind.Insert) fields = bare fields msc.Insert
msc_fields (Some msc_kind.Protect) fields = option_map (λ n. msc.Protect (flag n)) (number_word 0 1 (one fields))

abbrev pub midi_fields : Option MidiKind → List (List ℕ) → Option MidiCall
midi_fields None fields = None
midi_fields (Some midi_kind.Send) fields = option_map (λ bytes. midi.Send (record { items = bytes })) (bytes_word 1 most_transfer (one fields))
midi_fields (Some midi_kind.Recv) fields = option_map (λ n. midi.Recv n) (number_word 1 most_transfer (one fields))
midi_fields (Some midi_kind.Bytes) fields = option_map (λ n. midi.Bytes n) (number_word 1 most_transfer (one fields))

abbrev pub cdc_call : List (List ℕ) → Option CdcDeviceCall
cdc_call [] = None
cdc_call (name ∷ fields) = cdc_fields (cdc_kind_of name) fields

abbrev pub hid_call : List (List ℕ) → Option HidDeviceCall
hid_call [] = None
hid_call (name ∷ fields) = hid_fields (hid_kind_of name) fields

abbrev pub msc_call : List (List ℕ) → Option MscDeviceCall
msc_call [] = None
msc_call (name ∷ fields) = msc_fields (msc_kind_of name) fields

abbrev pub midi_call : List (List ℕ) → Option MidiCall
midi_call [] = None
midi_call (name ∷ fields) = midi_fields (midi_kind_of name) fields

-- the call of a class that the words after it are
abbrev pub class_call : Class → List (List ℕ) → Option DevCall
class_call class.Cdc words = option_map Cdc (cdc_call words)
class_call class.Hid words = option_map Hid (hid_call words)
class_call class.Msc words = option_map Msc (msc_call words)
class_call class.Midi words = option_map Midi (midi_call words)

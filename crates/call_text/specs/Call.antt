-- The lines of an application's calls of a device, each with its one spelling.
use Rattle.std.specs.Prelude.{ℕ, ◌≤◌, List, [], ◌∷◌, true, false, codes, ⊤}
use Rattle.std.specs.Fmt.{decimal}
use Rattle.usb_pipe.specs.declared.call.CdcDeviceCall.{CdcDeviceCall}
use Rattle.usb_pipe.specs.declared.call.CdcDeviceCall.TheVariants as cdc
use Rattle.usb_pipe.specs.declared.call.HidDeviceCall.{HidDeviceCall}
use Rattle.usb_pipe.specs.declared.call.HidDeviceCall.TheVariants as hid
use Rattle.usb_pipe.specs.declared.call.MscDeviceCall.{MscDeviceCall}
use Rattle.usb_pipe.specs.declared.call.MscDeviceCall.TheVariants as msc
use Rattle.usb_pipe.specs.declared.call.MidiCall.{MidiCall}
use Rattle.usb_pipe.specs.declared.call.MidiCall.TheVariants as midi
use Rattle.usb_words.specs.Field.{HasBytes, spaced, hex}
use Rattle.device_line.specs.declared.call.DevCall.{DevCall}
use Rattle.device_line.specs.declared.call.DevCall.TheVariants.{State, Cdc, Hid, Msc, Midi}

abbrev pub cdc_words : CdcDeviceCall → List (List ℕ)
cdc_words (cdc.Write bytes) = codes "cdc" ∷ codes "write" ∷ hex bytes.items ∷ []
cdc_words (cdc.Read n) = codes "cdc" ∷ codes "read" ∷ decimal n ∷ []
cdc_words cdc.Flush = codes "cdc" ∷ codes "flush" ∷ []
cdc_words cdc.Avail = codes "cdc" ∷ codes "avail" ∷ []
cdc_words cdc.Line = codes "cdc" ∷ codes "line" ∷ []
cdc_words (cdc.Notify bits) = codes "cdc" ∷ codes "notify" ∷ decimal bits ∷ []

abbrev pub hid_words : HidDeviceCall → List (List ℕ)
hid_words (hid.Report bytes) = codes "hid" ∷ codes "report" ∷ hex bytes.items ∷ []
hid_words hid.Take = codes "hid" ∷ codes "take" ∷ []
hid_words hid.Set = codes "hid" ∷ codes "set" ∷ []
hid_words hid.Idle = codes "hid" ∷ codes "idle" ∷ []

abbrev pub msc_words : MscDeviceCall → List (List ℕ)
msc_words msc.Eject = codes "msc" ∷ codes "eject" ∷ []
msc_words msc.Insert = codes "msc" ∷ codes "insert" ∷ []
msc_words (msc.Protect true) = codes "msc" ∷ codes "protect" ∷ codes "1" ∷ []
msc_words (msc.Protect false) = codes "msc" ∷ codes "protect" ∷ codes "0" ∷ []

abbrev pub midi_words : MidiCall → List (List ℕ)
midi_words (midi.Send bytes) = codes "midi" ∷ codes "send" ∷ hex bytes.items ∷ []
midi_words (midi.Recv n) = codes "midi" ∷ codes "recv" ∷ decimal n ∷ []
midi_words (midi.Bytes n) = codes "midi" ∷ codes "bytes" ∷ decimal n ∷ []

abbrev pub call_words : DevCall → List (List ℕ)
call_words State = codes "state" ∷ []
call_words (Cdc call) = cdc_words call
call_words (Hid call) = hid_words call
call_words (Msc call) = msc_words call
call_words (Midi call) = midi_words call

-- the text of a call's line, without the newline that ends it
abbrev pub call_text : DevCall → List ℕ
call_text call = spaced (call_words call)

-- how many bytes a call gives, and how many bytes or events it asks for
abbrev pub most_transfer : ℕ
most_transfer = 1024

-- how many bytes a report has, with its id byte where it has one (HID 1.11, 5.6)
abbrev pub most_report : ℕ
most_report = 64

-- the greatest state that SERIAL_STATE tells (CDC PSTN 1.2, 6.5.4)
abbrev pub most_state : ℕ
most_state = 65535

abbrev pub IsAsked : ℕ → Type 0
IsAsked n = (1 ≤ n) × (n ≤ most_transfer)

abbrev pub IsCdcCall : CdcDeviceCall → Type 0
IsCdcCall (cdc.Write bytes) = HasBytes 1 most_transfer bytes.items
IsCdcCall (cdc.Read n) = IsAsked n
IsCdcCall cdc.Flush = ⊤
IsCdcCall cdc.Avail = ⊤
IsCdcCall cdc.Line = ⊤
IsCdcCall (cdc.Notify bits) = bits ≤ most_state

abbrev pub IsHidCall : HidDeviceCall → Type 0
IsHidCall (hid.Report bytes) = HasBytes 1 most_report bytes.items
IsHidCall hid.Take = ⊤
IsHidCall hid.Set = ⊤
IsHidCall hid.Idle = ⊤

abbrev pub IsMidiCall : MidiCall → Type 0
IsMidiCall (midi.Send bytes) = HasBytes 1 most_transfer bytes.items
IsMidiCall (midi.Recv n) = IsAsked n
IsMidiCall (midi.Bytes n) = IsAsked n

-- the ranges of a call's fields
abbrev pub IsCall : DevCall → Type 0
IsCall State = ⊤
IsCall (Cdc call) = IsCdcCall call
IsCall (Hid call) = IsHidCall call
IsCall (Msc call) = ⊤
IsCall (Midi call) = IsMidiCall call

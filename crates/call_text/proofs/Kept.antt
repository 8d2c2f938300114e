-- The text of a call keeps all rules.
use Rattle.std.proofs.Common.{◌≡◌, ℕ, ◌≤◌, ◌<◌, ◌^◌, List, true, false, None, refl, arith}
use Rattle.usb_pipe.specs.declared.call.CdcDeviceCall.{CdcDeviceCall}
use Rattle.usb_pipe.specs.declared.call.CdcDeviceCall.TheVariants as cdc
use Rattle.usb_pipe.specs.declared.call.HidDeviceCall.{HidDeviceCall}
use Rattle.usb_pipe.specs.declared.call.HidDeviceCall.TheVariants as hid
use Rattle.usb_pipe.specs.declared.call.MscDeviceCall.{MscDeviceCall}
use Rattle.usb_pipe.specs.declared.call.MscDeviceCall.TheVariants as msc
use Rattle.usb_pipe.specs.declared.call.MidiCall.{MidiCall}
use Rattle.usb_pipe.specs.declared.call.MidiCall.TheVariants as midi
use Rattle.line_rules.specs.declared.kinds.Class.TheVariants as class
use Rattle.line_rules.specs.Rules.{rule_1, rule_2, first_of, class_row}
use Rattle.line_rules.proofs.Judged.{lowest_in}
use Rattle.line_rules.proofs.Kept.{decimal_is_no_empty, hex_is_no_empty, number_kept, bytes_kept}
use Rattle.call_text.specs.Call.{cdc_words, hid_words, msc_words, midi_words, IsCdcCall, IsHidCall, IsMidiCall}
use Rattle.call_text.proofs.Printed.{tail}

small : (n most : ℕ) → n ≤ most → most < 2 ^ 64 → n < 2 ^ 64
small n most h k = omega arith

pub cdc_kept : (line : List ℕ) (c : CdcDeviceCall) → rule_1 line ≡ true → rule_2 line ≡ true → IsCdcCall c
    → lowest_in line (class_row class.Cdc (first_of (tail (cdc_words c)))) (cdc_words c) ≡ None
cdc_kept line (cdc.Write bytes) short seen h = rw (short, seen, bytes_kept 1 1024 bytes.items h, hex_is_no_empty bytes.items) refl
cdc_kept line (cdc.Read n) short seen h =
    let fits = small n 1024 h.1 (omega arith) in
    rw (short, seen, number_kept 1 1024 n h.0 h.1 fits, decimal_is_no_empty n fits) refl
cdc_kept line cdc.Flush short seen h = rw (short, seen) refl
cdc_kept line cdc.Avail short seen h = rw (short, seen) refl
cdc_kept line cdc.Line short seen h = rw (short, seen) refl
cdc_kept line (cdc.Notify bits) short seen h =
    let fits = small bits 65535 h (omega arith) in
    rw (short, seen, number_kept 0 65535 bits (omega arith) h fits, decimal_is_no_empty bits fits) refl

pub hid_kept : (line : List ℕ) (c : HidDeviceCall) → rule_1 line ≡ true → rule_2 line ≡ true → IsHidCall c
    → lowest_in line (class_row class.Hid (first_of (tail (hid_words c)))) (hid_words c) ≡ None
hid_kept line (hid.Report bytes) short seen h = rw (short, seen, bytes_kept 1 64 bytes.items h, hex_is_no_empty bytes.items) refl
hid_kept line hid.Take short seen h = rw (short, seen) refl
hid_kept line hid.Set short seen h = rw (short, seen) refl
hid_kept line hid.Idle short seen h = rw (short, seen) refl

pub msc_kept : (line : List ℕ) (c : MscDeviceCall) → rule_1 line ≡ true → rule_2 line ≡ true
    → lowest_in line (class_row class.Msc (first_of (tail (msc_words c)))) (msc_words c) ≡ None
msc_kept line msc.Eject short seen = rw (short, seen) refl
msc_kept line msc.Insert short seen = rw (short, seen) refl
msc_kept line (msc.Protect true) short seen = rw (short, seen) refl
msc_kept line (msc.Protect false) short seen = rw (short, seen) refl

pub midi_kept : (line : List ℕ) (c : MidiCall) → rule_1 line ≡ true → rule_2 line ≡ true → IsMidiCall c
    → lowest_in line (class_row class.Midi (first_of (tail (midi_words c)))) (midi_words c) ≡ None
midi_kept line (midi.Send bytes) short seen h = rw (short, seen, bytes_kept 1 1024 bytes.items h, hex_is_no_empty bytes.items) refl
midi_kept line (midi.Recv n) short seen h =
    let fits = small n 1024 h.1 (omega arith) in
    rw (short, seen, number_kept 1 1024 n h.0 h.1 fits, decimal_is_no_empty n fits) refl
midi_kept line (midi.Bytes n) short seen h =
    let fits = small n 1024 h.1 (omega arith) in
    rw (short, seen, number_kept 1 1024 n h.0 h.1 fits, decimal_is_no_empty n fits) refl

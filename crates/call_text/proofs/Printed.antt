-- The text of a call is words, short, and read as that call.
use Rattle.std.proofs.Common.{◌≡◌, ℕ, ◌≤◌, List, [], ◌∷◌, true, false, Some, length, refl, ap, arith, codes}
use Rattle.std.specs.List.{list_all}
use Rattle.std.specs.Option.{option_map}
use Rattle.std.specs.Fmt.{decimal}
use Rattle.usb_pipe.specs.declared.call.CdcDeviceCall.{CdcDeviceCall}
use Rattle.usb_pipe.specs.declared.call.CdcDeviceCall.TheVariants as cdc
use Rattle.usb_pipe.specs.declared.call.HidDeviceCall.{HidDeviceCall}
use Rattle.usb_pipe.specs.declared.call.HidDeviceCall.TheVariants as hid
use Rattle.usb_pipe.specs.declared.call.MscDeviceCall.{MscDeviceCall}
use Rattle.usb_pipe.specs.declared.call.MscDeviceCall.TheVariants as msc
use Rattle.usb_pipe.specs.declared.call.MidiCall.{MidiCall}
use Rattle.usb_pipe.specs.declared.call.MidiCall.TheVariants as midi
use Rattle.usb_words.specs.Field.{spaced, hex}
use Rattle.usb_words.proofs.Hex.{is_word, hex_is_word}
use Rattle.usb_words.proofs.Decimal.{decimal_is_word}
use Rattle.usb_words.proofs.Alone.{bytes_word_again, number_word_again}
use Rattle.usb_words.proofs.Lengths.{length-hex, length-wide, length-three}
use Rattle.line_rules.specs.Rules.{most_line}
use Rattle.call_text.specs.Call.{cdc_words, hid_words, msc_words, midi_words, IsAsked, IsCdcCall, IsHidCall, IsMidiCall}
use Rattle.call_text.specs.Reading.{cdc_call, hid_call, msc_call, midi_call}

-- the words after the class
abbrev pub tail : List (List ℕ) → List (List ℕ)
tail [] = []
tail (word ∷ words) = words

asked_is_word : (n : ℕ) → IsAsked n → is_word (decimal n) ≡ true
asked_is_word n h = decimal_is_word n (omega (arith, h.1))

pub cdc_words_are_words : (c : CdcDeviceCall) → IsCdcCall c → list_all is_word (cdc_words c) ≡ true
cdc_words_are_words (cdc.Write bytes) h = rw (hex_is_word bytes.items h.2) refl
cdc_words_are_words (cdc.Read n) h = rw (asked_is_word n h) refl
cdc_words_are_words cdc.Flush h = refl
cdc_words_are_words cdc.Avail h = refl
cdc_words_are_words cdc.Line h = refl
cdc_words_are_words (cdc.Notify bits) h = rw (decimal_is_word bits (omega (arith, h))) refl

pub hid_words_are_words : (c : HidDeviceCall) → IsHidCall c → list_all is_word (hid_words c) ≡ true
hid_words_are_words (hid.Report bytes) h = rw (hex_is_word bytes.items h.2) refl
hid_words_are_words hid.Take h = refl
hid_words_are_words hid.Set h = refl
hid_words_are_words hid.Idle h = refl

pub msc_words_are_words : (c : MscDeviceCall) → list_all is_word (msc_words c) ≡ true
msc_words_are_words msc.Eject = refl
msc_words_are_words msc.Insert = refl
msc_words_are_words (msc.Protect true) = refl
msc_words_are_words (msc.Protect false) = refl

pub midi_words_are_words : (c : MidiCall) → IsMidiCall c → list_all is_word (midi_words c) ≡ true
midi_words_are_words (midi.Send bytes) h = rw (hex_is_word bytes.items h.2) refl
midi_words_are_words (midi.Recv n) h = rw (asked_is_word n h) refl
midi_words_are_words (midi.Bytes n) h = rw (asked_is_word n h) refl

pub cdc_again : (c : CdcDeviceCall) → IsCdcCall c → cdc_call (tail (cdc_words c)) ≡ Some c
cdc_again (cdc.Write bytes) h = ap (option_map (λ bs. cdc.Write (record { items = bs }))) (bytes_word_again 1 1024 bytes.items h)
cdc_again (cdc.Read n) h = ap (option_map (λ m. cdc.Read m)) (number_word_again 1 1024 n h.0 h.1 (omega arith))
cdc_again cdc.Flush h = refl
cdc_again cdc.Avail h = refl
cdc_again cdc.Line h = refl
cdc_again (cdc.Notify bits) h = ap (option_map (λ m. cdc.Notify m)) (number_word_again 0 65535 bits (omega arith) h (omega arith))

pub hid_again : (c : HidDeviceCall) → IsHidCall c → hid_call (tail (hid_words c)) ≡ Some c
hid_again (hid.Report bytes) h = ap (option_map (λ bs. hid.Report (record { items = bs }))) (bytes_word_again 1 64 bytes.items h)
hid_again hid.Take h = refl
hid_again hid.Set h = refl
hid_again hid.Idle h = refl

pub msc_again : (c : MscDeviceCall) → msc_call (tail (msc_words c)) ≡ Some c
msc_again msc.Eject = refl
msc_again msc.Insert = refl
msc_again (msc.Protect true) = refl
msc_again (msc.Protect false) = refl

pub midi_again : (c : MidiCall) → IsMidiCall c → midi_call (tail (midi_words c)) ≡ Some c
midi_again (midi.Send bytes) h = ap (option_map (λ bs. midi.Send (record { items = bs }))) (bytes_word_again 1 1024 bytes.items h)
midi_again (midi.Recv n) h = ap (option_map (λ m. midi.Recv m)) (number_word_again 1 1024 n h.0 h.1 (omega arith))
midi_again (midi.Bytes n) h = ap (option_map (λ m. midi.Bytes m)) (number_word_again 1 1024 n h.0 h.1 (omega arith))

asked_is_short : (n : ℕ) → IsAsked n → length (decimal n) ≤ 5
asked_is_short n h = length-wide n 1024 h.1 (omega arith)

pub cdc_is_short : (c : CdcDeviceCall) → IsCdcCall c → length (spaced (cdc_words c)) ≤ most_line
cdc_is_short (cdc.Write bytes) h = omega (arith, length-three (codes "cdc") (codes "write") (hex bytes.items), length-hex bytes.items, h.1)
cdc_is_short (cdc.Read n) h = omega (arith, length-three (codes "cdc") (codes "read") (decimal n), asked_is_short n h)
cdc_is_short cdc.Flush h = omega arith
cdc_is_short cdc.Avail h = omega arith
cdc_is_short cdc.Line h = omega arith
cdc_is_short (cdc.Notify bits) h = omega (arith, length-three (codes "cdc") (codes "notify") (decimal bits), length-wide bits 65535 h (omega arith))

pub hid_is_short : (c : HidDeviceCall) → IsHidCall c → length (spaced (hid_words c)) ≤ most_line
hid_is_short (hid.Report bytes) h = omega (arith, length-three (codes "hid") (codes "report") (hex bytes.items), length-hex bytes.items, h.1)
hid_is_short hid.Take h = omega arith
hid_is_short hid.Set h = omega arith
hid_is_short hid.Idle h = omega arith

pub msc_is_short : (c : MscDeviceCall) → length (spaced (msc_words c)) ≤ most_line
msc_is_short msc.Eject = omega arith
msc_is_short msc.Insert = omega arith
msc_is_short (msc.Protect true) = omega arith
msc_is_short (msc.Protect false) = omega arith

pub midi_is_short : (c : MidiCall) → IsMidiCall c → length (spaced (midi_words c)) ≤ most_line
midi_is_short (midi.Send bytes) h = omega (arith, length-three (codes "midi") (codes "send") (hex bytes.items), length-hex bytes.items, h.1)
midi_is_short (midi.Recv n) h = omega (arith, length-three (codes "midi") (codes "recv") (decimal n), asked_is_short n h)
midi_is_short (midi.Bytes n) h = omega (arith, length-three (codes "midi") (codes "bytes") (decimal n), asked_is_short n h)

-- the class stands in front
pub cdc_begins : (c : CdcDeviceCall) → cdc_words c ≡ codes "cdc" ∷ tail (cdc_words c)
cdc_begins (cdc.Write bytes) = refl
cdc_begins (cdc.Read n) = refl
cdc_begins cdc.Flush = refl
cdc_begins cdc.Avail = refl
cdc_begins cdc.Line = refl
cdc_begins (cdc.Notify bits) = refl

pub hid_begins : (c : HidDeviceCall) → hid_words c ≡ codes "hid" ∷ tail (hid_words c)
hid_begins (hid.Report bytes) = refl
hid_begins hid.Take = refl
hid_begins hid.Set = refl
hid_begins hid.Idle = refl

pub msc_begins : (c : MscDeviceCall) → msc_words c ≡ codes "msc" ∷ tail (msc_words c)
msc_begins msc.Eject = refl
msc_begins msc.Insert = refl
msc_begins (msc.Protect true) = refl
msc_begins (msc.Protect false) = refl

pub midi_begins : (c : MidiCall) → midi_words c ≡ codes "midi" ∷ tail (midi_words c)
midi_begins (midi.Send bytes) = refl
midi_begins (midi.Recv n) = refl
midi_begins (midi.Bytes n) = refl

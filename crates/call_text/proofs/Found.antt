-- The words of a call that keep all rules are read.
use Rattle.std.proofs.Common.{◌≡◌, ℕ, List, [], ◌∷◌, not, eqb, ◌+◌, length, Option, Some, None, refl, ap, arith}
use Rattle.std.specs.Option.{option_map}
use Rattle.std.specs.List.{list_all}
use Rattle.usb_pipe.specs.declared.call.CdcDeviceCall.{CdcDeviceCall}
use Rattle.usb_pipe.specs.declared.call.CdcDeviceCall.TheVariants as cdc
use Rattle.usb_pipe.specs.declared.call.HidDeviceCall.{HidDeviceCall}
use Rattle.usb_pipe.specs.declared.call.HidDeviceCall.TheVariants as hid
use Rattle.usb_pipe.specs.declared.call.MscDeviceCall.{MscDeviceCall}
use Rattle.usb_pipe.specs.declared.call.MscDeviceCall.TheVariants as msc
use Rattle.usb_pipe.specs.declared.call.MidiCall.{MidiCall}
use Rattle.usb_pipe.specs.declared.call.MidiCall.TheVariants as midi
use Rattle.usb_words.specs.Field.{one, bytes_word, number_word}
use Rattle.usb_words.proofs.Decimal.{and_true}
use Rattle.line_rules.specs.declared.kinds.Class.{Class}
use Rattle.line_rules.specs.declared.kinds.Class.TheVariants as class
use Rattle.line_rules.specs.declared.kinds.CdcKind.{CdcKind}
use Rattle.line_rules.specs.declared.kinds.CdcKind.TheVariants as cdc_kind
use Rattle.line_rules.specs.declared.kinds.HidKind.{HidKind}
use Rattle.line_rules.specs.declared.kinds.HidKind.TheVariants as hid_kind
use Rattle.line_rules.specs.declared.kinds.MscKind.{MscKind}
use Rattle.line_rules.specs.declared.kinds.MscKind.TheVariants as msc_kind
use Rattle.line_rules.specs.declared.kinds.MidiKind.{MidiKind}
use Rattle.line_rules.specs.declared.kinds.MidiKind.TheVariants as midi_kind
use Rattle.line_rules.specs.Kinds.{cdc_kind_of, hid_kind_of, msc_kind_of, midi_kind_of}
use Rattle.line_rules.specs.declared.rules.Field.{Field}
use Rattle.line_rules.specs.declared.rules.Field.TheVariants.{Name, Number, Bytes}
use Rattle.line_rules.specs.Rules.{first_of, by_word, fields_of, is_empty, class_row, cdc_row_of, hid_row_of, msc_row_of, midi_row_of}
use Rattle.line_rules.proofs.Found.{Keeps, after, bytes_word_found, number_word_found}
use Rattle.device_line.specs.declared.call.DevCall.{DevCall}
use Rattle.device_line.specs.declared.call.DevCall.TheVariants.{Cdc, Hid, Msc, Midi}
use Rattle.call_text.specs.Reading.{bare, flag, cdc_fields, hid_fields, msc_fields, midi_fields, class_call}

given_found : (least most : ℕ) (class name : List ℕ) (words : List (List ℕ)) → Keeps (Some (Name ∷ Bytes least most ∷ [])) (class ∷ name ∷ words)
    → length (name ∷ words) ≡ 2 → (bytes : List ℕ) × (bytes_word least most (one words) ≡ Some bytes)
given_found least most class name [] k e = absurd (omega (arith, e))
given_found least most class name (w ∷ []) k e = bytes_word_found least most w (and_true _ _ k.bytes).0
given_found least most class name (w ∷ v ∷ vs) k e = absurd (omega (arith, e))

asked_found : (least most : ℕ) (class name : List ℕ) (words : List (List ℕ)) → Keeps (Some (Name ∷ Number least most ∷ [])) (class ∷ name ∷ words)
    → length (name ∷ words) ≡ 2 → (n : ℕ) × (number_word least most (one words) ≡ Some n)
asked_found least most class name [] k e = absurd (omega (arith, e))
asked_found least most class name (w ∷ []) k e = number_word_found least most w (and_true _ _ k.numbers).0
asked_found least most class name (w ∷ v ∷ vs) k e = absurd (omega (arith, e))

bare_left : {A : Type 0} (name : List ℕ) (words : List (List ℕ)) (this : A) → length (name ∷ words) ≡ 1 → bare words this ≡ Some this
bare_left name [] this e = refl
bare_left name (w ∷ ws) this e = absurd (omega (arith, e))

given : (least most : ℕ) (class name : List ℕ) (words : List (List ℕ)) → Keeps (Some (Name ∷ Bytes least most ∷ [])) (class ∷ name ∷ words)
    → (bytes : List ℕ) × (bytes_word least most (one words) ≡ Some bytes)
given least most class name words k = given_found least most class name words k (after (Name ∷ Bytes least most ∷ []) class (name ∷ words) k)

asked : (least most : ℕ) (class name : List ℕ) (words : List (List ℕ)) → Keeps (Some (Name ∷ Number least most ∷ [])) (class ∷ name ∷ words)
    → (n : ℕ) × (number_word least most (one words) ≡ Some n)
asked least most class name words k = asked_found least most class name words k (after (Name ∷ Number least most ∷ []) class (name ∷ words) k)

bare_found : {A : Type 0} (class name : List ℕ) (words : List (List ℕ)) (this : A) → Keeps (Some (Name ∷ [])) (class ∷ name ∷ words) → bare words this ≡ Some this
bare_found class name words this k = bare_left name words this (after (Name ∷ []) class (name ∷ words) k)

cdc_found : (class name : List ℕ) (words : List (List ℕ)) (kind : Option CdcKind) → Keeps (cdc_row_of kind) (class ∷ name ∷ words)
    → (c : CdcDeviceCall) × (cdc_fields kind words ≡ Some c)
cdc_found class name words None k = let e = k.named in absurd (cc)
cdc_found class name words (Some cdc_kind.Write) k =
    let b = given 1 1024 class name words k in (cdc.Write (record { items = b.0 }), ap (option_map (λ bytes. cdc.Write (record { items = bytes }))) b.1)
cdc_found class name words (Some cdc_kind.Read) k = let n = asked 1 1024 class name words k in (cdc.Read n.0, ap (option_map (λ m. cdc.Read m)) n.1)
cdc_found class name words (Some cdc_kind.Flush) k = (cdc.Flush, bare_found class name words cdc.Flush k)
cdc_found class name words (Some cdc_kind.Avail) k = (cdc.Avail, bare_found class name words cdc.Avail k)
cdc_found class name words (Some cdc_kind.Line) k = (cdc.Line, bare_found class name words cdc.Line k)
cdc_found class name words (Some cdc_kind.Notify) k = let n = asked 0 65535 class name words k in (cdc.Notify n.0, ap (option_map (λ m. cdc.Notify m)) n.1)

hid_found : (class name : List ℕ) (words : List (List ℕ)) (kind : Option HidKind) → Keeps (hid_row_of kind) (class ∷ name ∷ words)
    → (c : HidDeviceCall) × (hid_fields kind words ≡ Some c)
hid_found class name words None k = let e = k.named in absurd (cc)
hid_found class name words (Some hid_kind.Report) k =
    let b = given 1 64 class name words k in (hid.Report (record { items = b.0 }), ap (option_map (λ bytes. hid.Report (record { items = bytes }))) b.1)
hid_found class name words (Some hid_kind.Take) k = (hid.Take, bare_found class name words hid.Take k)
hid_found class name words (Some hid_kind.Set) k = (hid.Set, bare_found class name words hid.Set k)
hid_found class name words (Some hid_kind.Idle) k = (hid.Idle, bare_found class name words hid.Idle k)

msc_found : (class name : List ℕ) (words : List (List ℕ)) (kind : Option MscKind) → Keeps (msc_row_of kind) (class ∷ name ∷ words)
    → (c : MscDeviceCall) × (msc_fields kind words ≡ Some c)
msc_found class name words None k = let e = k.named in absurd (cc)
msc_found class name words (Some msc_kind.Eject) k = (msc.Eject, bare_found class name words msc.Eject k)
msc_found class name words (Some msc_kind.Insert) k = (msc.Insert, bare_found class name words msc.Insert k)
msc_found class name words (Some msc_kind.Protect) k =
    let n = asked 0 1 class name words k in (msc.Protect (flag n.0), ap (option_map (λ m. msc.Protect (flag m))) n.1)

midi_found : (class name : List ℕ) (words : List (List ℕ)) (kind : Option MidiKind) → Keeps (midi_row_of kind) (class ∷ name ∷ words)
    → (c : MidiCall) × (midi_fields kind words ≡ Some c)
midi_found class name words None k = let e = k.named in absurd (cc)
midi_found class name words (Some midi_kind.Send) k =
    let b = given 1 1024 class name words k in (midi.Send (record { items = b.0 }), ap (option_map (λ bytes. midi.Send (record { items = bytes }))) b.1)
midi_found class name words (Some midi_kind.Recv) k = let n = asked 1 1024 class name words k in (midi.Recv n.0, ap (option_map (λ m. midi.Recv m)) n.1)
midi_found class name words (Some midi_kind.Bytes) k = let n = asked 1 1024 class name words k in (midi.Bytes n.0, ap (option_map (λ m. midi.Bytes m)) n.1)

-- the word after the class is none that is empty
no_second : (class : List ℕ) (row : Option (List Field)) (words : List (List ℕ)) → Keeps row (class ∷ [] ∷ words) → ⊥
no_second class row words k =
    let a = and_true (eqb (length (class ∷ [] ∷ words)) (1 + length (by_word (fields_of row) ([] ∷ words)))) (list_all (λ word. not (is_empty word)) (class ∷ [] ∷ words)) k.shaped in
    let b = and_true (not (is_empty class)) (list_all (λ word. not (is_empty word)) ([] ∷ words)) a.1 in
    let e = b.1 in cc

no_name_of_class : (c : Class) (name : List ℕ) → Keeps (class_row c []) (name ∷ []) → ⊥
no_name_of_class class.Cdc name k = let e = k.named in cc
no_name_of_class class.Hid name k = let e = k.named in cc
no_name_of_class class.Msc name k = let e = k.named in cc
no_name_of_class class.Midi name k = let e = k.named in cc

named_found : (c : Class) (class name : List ℕ) (words : List (List ℕ)) → Keeps (class_row c name) (class ∷ name ∷ words)
    → (v : DevCall) × (class_call c (name ∷ words) ≡ Some v)
named_found class.Cdc first name words k = let f = cdc_found first name words (cdc_kind_of name) k in (Cdc f.0, ap (option_map Cdc) f.1)
named_found class.Hid first name words k = let f = hid_found first name words (hid_kind_of name) k in (Hid f.0, ap (option_map Hid) f.1)
named_found class.Msc first name words k = let f = msc_found first name words (msc_kind_of name) k in (Msc f.0, ap (option_map Msc) f.1)
named_found class.Midi first name words k = let f = midi_found first name words (midi_kind_of name) k in (Midi f.0, ap (option_map Midi) f.1)

pub class_found : (c : Class) (first : List ℕ) (words : List (List ℕ)) → Keeps (class_row c (first_of words)) (first ∷ words) → (v : DevCall) × (class_call c words ≡ Some v)
class_found c first [] k = absurd (no_name_of_class c first k)
class_found c first ([] ∷ words) k = absurd (no_second first _ words k)
class_found c first ((b ∷ bs) ∷ words) k = named_found c first (b ∷ bs) words k

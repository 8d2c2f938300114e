-- A name is of one kind of line only.
use Rattle.std.proofs.Common.{◌≡◌, ℕ, List, Option, Some, None, refl, ap, sym, ◌∙◌, codes, cond, inl, inr}
use Rattle.std.specs.Str.{bytes_eq}
use Rattle.std.specs.Cmp.Lexicographic.{same_text}
use Rattle.usb_words.proofs.Alone.{chosen}
use Rattle.line_rules.specs.declared.kinds.Kind.{Kind}
use Rattle.line_rules.specs.declared.kinds.Kind.TheVariants as kind
use Rattle.line_rules.specs.declared.kinds.HeadKind.{HeadKind}
use Rattle.line_rules.specs.declared.kinds.HeadKind.TheVariants as head
use Rattle.line_rules.specs.declared.kinds.Class.{Class}
use Rattle.line_rules.specs.declared.kinds.Class.TheVariants as class
use Rattle.line_rules.specs.declared.kinds.CdcKind.{CdcKind}
use Rattle.line_rules.specs.declared.kinds.CdcKind.TheVariants as cdc
use Rattle.line_rules.specs.declared.kinds.HidKind.{HidKind}
use Rattle.line_rules.specs.declared.kinds.HidKind.TheVariants as hid
use Rattle.line_rules.specs.declared.kinds.MscKind.{MscKind}
use Rattle.line_rules.specs.declared.kinds.MscKind.TheVariants as msc
use Rattle.line_rules.specs.declared.kinds.MidiKind.{MidiKind}
use Rattle.line_rules.specs.declared.kinds.MidiKind.TheVariants as midi
use Rattle.line_rules.specs.Kinds.{kind_of, class_of, of_class, head_kind_of, cdc_kind_of, hid_kind_of, msc_kind_of, midi_kind_of}

-- the first word of each kind of line
abbrev pub class_name : Class → List ℕ
class_name class.Cdc = codes "cdc"
class_name class.Hid = codes "hid"
class_name class.Msc = codes "msc"
class_name class.Midi = codes "midi"

abbrev pub name_of : Kind → List ℕ
name_of kind.Reset = codes "reset"
name_of kind.Irq = codes "irq"
name_of kind.Task = codes "task"
name_of kind.End = codes "end"
name_of kind.State = codes "state"
name_of kind.Setup = codes "setup"
name_of kind.Out = codes "out"
name_of kind.In = codes "in"
name_of (kind.Class c) = class_name c

abbrev pub head_name : HeadKind → List ℕ
head_name head.Device = codes "device"
head_name head.Config = codes "config"
head_name head.Text = codes "string"
head_name head.Report = codes "report"
head_name head.Begin = codes "begin"

-- the second word of each kind of call
abbrev pub cdc_name : CdcKind → List ℕ
cdc_name cdc.Write = codes "write"
cdc_name cdc.Read = codes "read"
cdc_name cdc.Flush = codes "flush"
cdc_name cdc.Avail = codes "avail"
cdc_name cdc.Line = codes "line"
cdc_name cdc.Notify = codes "notify"

abbrev pub hid_name : HidKind → List ℕ
hid_name hid.Report = codes "report"
hid_name hid.Take = codes "take"
hid_name hid.Set = codes "set"
hid_name hid.Idle = codes "idle"

abbrev pub msc_name : MscKind → List ℕ
msc_name msc.Eject = codes "eject"
msc_name msc.Insert = codes "insert"
msc_name msc.Protect = codes "protect"

abbrev pub midi_name : MidiKind → List ℕ
midi_name midi.Send = codes "send"
midi_name midi.Recv = codes "recv"
midi_name midi.Bytes = codes "bytes"

named : {K : Type 0} (text_of : K → List ℕ) (name text : List ℕ) (this kind : K) (others : Option K) → text ≡ text_of this
    → (others ≡ Some kind → name ≡ text_of kind) → cond (bytes_eq name text) (Some this) others ≡ Some kind → name ≡ text_of kind
named text_of name text this kind others e rest h =
    elim (chosen (bytes_eq name text) this kind others h) [
      | inl c ↦ same_text name text (sym c.0) ∙ e ∙ ap text_of c.1
      | inr o ↦ rest o
    ]

pub class_only : (name : List ℕ) (c : Class) → class_of name ≡ Some c → name ≡ class_name c
class_only name c h =
    named class_name name (codes "cdc") class.Cdc c _ refl (
    named class_name name (codes "hid") class.Hid c _ refl (
    named class_name name (codes "msc") class.Msc c _ refl (
    named class_name name (codes "midi") class.Midi c _ refl (λ (e : None ≡ Some c). absurd (cc))))) h

call_only : (name : List ℕ) (r : Option Class) (k : Kind) → class_of name ≡ r → of_class r ≡ Some k → name ≡ name_of k
call_only name None k e h = absurd (cc)
call_only name (Some c) k e h = let same : kind.Class c ≡ k = cc in class_only name c e ∙ ap name_of same

pub kind_only : (name : List ℕ) (k : Kind) → kind_of name ≡ Some k → name ≡ name_of k
kind_only name k h =
    named name_of name (codes "in") kind.In k _ refl (
    named name_of name (codes "out") kind.Out k _ refl (
    named name_of name (codes "setup") kind.Setup k _ refl (
    named name_of name (codes "irq") kind.Irq k _ refl (
    named name_of name (codes "task") kind.Task k _ refl (
    named name_of name (codes "reset") kind.Reset k _ refl (
    named name_of name (codes "end") kind.End k _ refl (
    named name_of name (codes "state") kind.State k _ refl (λ e. call_only name (class_of name) k refl e)))))))) h

pub head_kind_only : (name : List ℕ) (k : HeadKind) → head_kind_of name ≡ Some k → name ≡ head_name k
head_kind_only name k h =
    named head_name name (codes "device") head.Device k _ refl (
    named head_name name (codes "config") head.Config k _ refl (
    named head_name name (codes "string") head.Text k _ refl (
    named head_name name (codes "report") head.Report k _ refl (
    named head_name name (codes "begin") head.Begin k _ refl (λ (e : None ≡ Some k). absurd (cc)))))) h

pub cdc_kind_only : (name : List ℕ) (k : CdcKind) → cdc_kind_of name ≡ Some k → name ≡ cdc_name k
cdc_kind_only name k h =
    named cdc_name name (codes "write") cdc.Write k _ refl (
    named cdc_name name (codes "read") cdc.Read k _ refl (
    named cdc_name name (codes "flush") cdc.Flush k _ refl (
    named cdc_name name (codes "avail") cdc.Avail k _ refl (
    named cdc_name name (codes "line") cdc.Line k _ refl (
    named cdc_name name (codes "notify") cdc.Notify k _ refl (λ (e : None ≡ Some k). absurd (cc))))))) h

pub hid_kind_only : (name : List ℕ) (k : HidKind) → hid_kind_of name ≡ Some k → name ≡ hid_name k
hid_kind_only name k h =
    named hid_name name (codes "report") hid.Report k _ refl (
    named hid_name name (codes "take") hid.Take k _ refl (
    named hid_name name (codes "set") hid.Set k _ refl (
    named hid_name name (codes "idle") hid.Idle k _ refl (λ (e : None ≡ Some k). absurd (cc))))) h

pub msc_kind_only : (name : List ℕ) (k : MscKind) → msc_kind_of name ≡ Some k → name ≡ msc_name k
msc_kind_only name k h =
    named msc_name name (codes "eject") msc.Eject k _ refl (
    named msc_name name (codes "insert") msc.Insert k _ refl (
    named msc_name name (codes "protect") msc.Protect k _ refl (λ (e : None ≡ Some k). absurd (cc)))) h

pub midi_kind_only : (name : List ℕ) (k : MidiKind) → midi_kind_of name ≡ Some k → name ≡ midi_name k
midi_kind_only name k h =
    named midi_name name (codes "send") midi.Send k _ refl (
    named midi_name name (codes "recv") midi.Recv k _ refl (
    named midi_name name (codes "bytes") midi.Bytes k _ refl (λ (e : None ≡ Some k). absurd (cc)))) h

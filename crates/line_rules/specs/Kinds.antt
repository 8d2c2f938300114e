-- The names of lines, and the other words than `ok` in their choices.
use Rattle.std.specs.Prelude.{ℕ, List, codes, if◌then◌else◌, Option, Some, None}
use Rattle.std.specs.Str.{bytes_eq}
use Rattle.line_rules.specs.declared.kinds.Kind.{Kind}
use Rattle.line_rules.specs.declared.kinds.Kind.TheVariants as kind
use Rattle.line_rules.specs.declared.kinds.HeadKind.{HeadKind}
use Rattle.line_rules.specs.declared.kinds.HeadKind.TheVariants as head
use Rattle.line_rules.specs.declared.kinds.Class.{Class}
use Rattle.line_rules.specs.declared.kinds.Class.TheVariants as class
use Rattle.line_rules.specs.declared.kinds.CdcKind.{CdcKind}
use Rattle.line_rules.specs.declared.kinds.CdcKind.TheVariants as cdc
use Rattle.line_rules.specs.declared.kinds.HidKind.{HidKind}
use Rattle.line_rules.specs.declared.kinds.HidKind.TheVariants as hid
use Rattle.line_rules.specs.declared.kinds.MscKind.{MscKind}
use Rattle.line_rules.specs.declared.kinds.MscKind.TheVariants as msc
use Rattle.line_rules.specs.declared.kinds.MidiKind.{MidiKind}
use Rattle.line_rules.specs.declared.kinds.MidiKind.TheVariants as midi

-- the class that a first word names
abbrev pub class_of : List ℕ → Option Class
class_of name =
    if bytes_eq name (codes "cdc") then Some class.Cdc
    else (if bytes_eq name (codes "hid") then Some class.Hid
    else (if bytes_eq name (codes "msc") then Some class.Msc
    else (if bytes_eq name (codes "midi") then Some class.Midi
    else None)))

abbrev pub of_class : Option Class → Option Kind
of_class None = None
of_class (Some c) = Some (kind.Class c)

-- the kind of line of the schedule that a first word names
abbrev pub kind_of : List ℕ → Option Kind
kind_of name =
    if bytes_eq name (codes "in") then Some kind.In
    else (if bytes_eq name (codes "out") then Some kind.Out
    else (if bytes_eq name (codes "setup") then Some kind.Setup
    else (if bytes_eq name (codes "irq") then Some kind.Irq
    else (if bytes_eq name (codes "task") then Some kind.Task
    else (if bytes_eq name (codes "reset") then Some kind.Reset
    else (if bytes_eq name (codes "end") then Some kind.End
    else (if bytes_eq name (codes "state") then Some kind.State
    else of_class (class_of name))))))))

-- the kind of call that the word after a class names
abbrev pub cdc_kind_of : List ℕ → Option CdcKind
cdc_kind_of name =
    if bytes_eq name (codes "write") then Some cdc.Write
    else (if bytes_eq name (codes "read") then Some cdc.Read
    else (if bytes_eq name (codes "flush") then Some cdc.Flush
    else (if bytes_eq name (codes "avail") then Some cdc.Avail
    else (if bytes_eq name (codes "line") then Some cdc.Line
    else (if bytes_eq name (codes "notify") then Some cdc.Notify
    else None)))))

abbrev pub hid_kind_of : List ℕ → Option HidKind
hid_kind_of name =
    if bytes_eq name (codes "report") then Some hid.Report
    else (if bytes_eq name (codes "take") then Some hid.Take
    else (if bytes_eq name (codes "set") then Some hid.Set
    else (if bytes_eq name (codes "idle") then Some hid.Idle
    else None)))

abbrev pub msc_kind_of : List ℕ → Option MscKind
msc_kind_of name =
    if bytes_eq name (codes "eject") then Some msc.Eject
    else (if bytes_eq name (codes "insert") then Some msc.Insert
    else (if bytes_eq name (codes "protect") then Some msc.Protect
    else None))

abbrev pub midi_kind_of : List ℕ → Option MidiKind
midi_kind_of name =
    if bytes_eq name (codes "send") then Some midi.Send
    else (if bytes_eq name (codes "recv") then Some midi.Recv
    else (if bytes_eq name (codes "bytes") then Some midi.Bytes
    else None))

-- the same of a line of the head
abbrev pub head_kind_of : List ℕ → Option HeadKind
head_kind_of name =
    if bytes_eq name (codes "device") then Some head.Device
    else (if bytes_eq name (codes "config") then Some head.Config
    else (if bytes_eq name (codes "string") then Some head.Text
    else (if bytes_eq name (codes "report") then Some head.Report
    else (if bytes_eq name (codes "begin") then Some head.Begin
    else None))))

-- a packet that was damaged
abbrev pub bad : List ℕ
bad = codes "bad"

-- data that the host didn't acknowledge
abbrev pub noack : List ℕ
noack = codes "noack"

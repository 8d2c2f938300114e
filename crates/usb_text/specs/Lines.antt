-- The lines of each mode and place, and how they are read.
use Rattle.std.specs.Prelude.{ℕ, List, Option, Some, None, ⊤}
use Rattle.line_rules.specs.declared.rules.Mode.{Mode}
use Rattle.line_rules.specs.declared.rules.Mode.TheVariants as mode
use Rattle.line_rules.specs.declared.rules.Place.{Place}
use Rattle.line_rules.specs.declared.rules.Place.TheVariants as place
use Rattle.usb_text.specs.declared.head.HeadLine.{HeadLine}
use Rattle.usb_text.specs.Scheduled.{Scheduled}
use Rattle.usb_text.specs.Scheduled as schedule
use Rattle.usb_text.specs.declared.line.Line.{Line}
use Rattle.usb_text.specs.declared.line.Line.TheVariants.{Head, Device, End}
use Rattle.usb_text.specs.Head.{head_of}
use Rattle.usb_text.specs.Reading.{line_of}

-- a line of this mode and place. Jobs of the other modes have no lines yet.
abbrev pub StandsIn : Mode → Place → Line → Type 0
StandsIn mode.Device place.Head (Head line) = ⊤
StandsIn mode.Device place.Head (Device line) = ⊥
StandsIn mode.Device place.Head End = ⊥
StandsIn mode.Device place.Schedule (Head line) = ⊥
StandsIn mode.Device place.Schedule (Device line) = ⊤
StandsIn mode.Device place.Schedule End = ⊤
StandsIn mode.Host p line = ⊥
StandsIn mode.Link p line = ⊥

abbrev pub of_head : Option HeadLine → Option Line
of_head None = None
of_head (Some line) = Some (Head line)

abbrev pub of_schedule : Option Scheduled → Option Line
of_schedule None = None
of_schedule (Some (schedule.Device line)) = Some (Device line)
of_schedule (Some schedule.End) = Some End

-- the line of this mode and place that bytes are the text of
abbrev pub line_in : Mode → Place → List ℕ → Option Line
line_in mode.Device place.Head bytes = of_head (head_of bytes)
line_in mode.Device place.Schedule bytes = of_schedule (line_of bytes)
line_in mode.Host p bytes = None
line_in mode.Link p bytes = None

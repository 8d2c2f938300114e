-- What one line of a schedule, and then many, do to a run.
use Rattle.std.specs.Prelude.{◌≡◌, ℕ, ◌+◌, ◌≤◌, ◌<◌, List, [], ◌∷◌, ◌++◌, Bool, true, false, length, map, take, drop, Option, Some, None, ⊤}
use Rattle.std.specs.List.{AllByRecursion}
use Rattle.dwc2_regs.specs.declared.access.TheConstants.{FS4}
use Rattle.device_table.specs.State.{opened}
use Rattle.usb_edge.specs.Stream.{Takes, counted}
use Rattle.line_rules.specs.declared.rules.Mode.TheVariants as mode
use Rattle.line_rules.specs.declared.rules.Place.TheVariants as place
use Rattle.line_rules.specs.Rules.{lowest}
use Rattle.device_line.specs.declared.line.DevLine.{DevLine}
use Rattle.usb_text.specs.Scheduled.{Scheduled}
use Rattle.usb_text.specs.declared.line.Line.TheVariants.{Device, End}
use Rattle.usb_text.specs.Line.{newline, line_text, schedule_text_of, IsScheduled, IsDeviceLine}
use Rattle.usb_text.specs.Plain.{is_plain}
use Rattle.device_owners.specs.Isolation.{Isolates}
use Rattle.device_owners.specs.Lines.{whole, state_after}
use Rattle.device_text.specs.Job.{schedule_text, end_line, closed, given, most_bytes}
use Rattle.device_schedule.specs.Turns.{Turn, after_turns, IsTrace}
use Rattle.device_text.specs.Trace.{trace_text}
use Rattle.access_order.specs.Order.{unused, after_runs}
use Rattle.device_run.specs.Run.{Steps, Rests, loads_of, world, answer_of}
use Rattle.job_reader.specs.Stream.{bytes_left}
use Rattle.job_reader.specs.Lines.{Finds, IsNext, Gone, IsCut, size_of}
use Rattle.usbrun.specs.Written.{AreInOrder}
use Rattle.usbrun.specs.Texts.{Took, Hears, HandsOut, trace_part, added_where, texts_of}
use Rattle.job_reader.specs.declared.lines.Next.{Next}
use Rattle.usbrun.specs.declared.texts.Texts.{Texts}
use Rattle.usbrun.specs.declared.session.Session.{Session}
use Rattle.usbrun.specs.declared.session.Stop.{Stop}
use Rattle.usbrun.specs.declared.session.Stop.TheVariants as stop

-- the next line was looked for: what waited was handed on where more had to be read
pub record Looks (left left' taken taken' : Option (List ℕ)) (old new : Session) : Type 0 where
  pub finds : Finds left left' old.lines new.lines
  pub hands : HandsOut taken taken' old.texts new.texts
  pub run : new.run ≡ old.run

abbrev pub FindsNext : Option Next → Session → ℕ → ℕ → Type 0
FindsNext None new faults faults' = ⊤
FindsNext (Some next) new faults faults' = IsNext next new.lines faults faults'

-- a line of n bytes was answered, and taken with its newline. `told` says whether the trace took all of its text
pub record Answers (told : Bool) (n : ℕ) (took took' : Took) (old new : Session) : Type 0 where
  pub line : DevLine
  pub fits : IsDeviceLine line
  pub text : take n old.lines.reader ≡ line_text (Device line)
  pub rest : new.lines.reader ≡ drop (n + 1) old.lines.reader
  pub ended : new.lines.ended ≡ old.lines.ended
  pub run : Steps old.run new.run line (answer_of old.run line)
  pub trace : Hears told took.trace took'.trace (trace_part new.run.log (answer_of old.run line))
  pub hands : HandsOut took.out took'.out (added_where told old.texts new.run.log (answer_of old.run line)) new.texts
  pub count : new.lines.count ≡ old.lines.count + size_of n old.lines.reader
  pub lines : new.lines.lines ≡ old.lines.lines + 1
  pub short : new.lines.count ≤ most_bytes

-- nothing was changed but what waited, of which some was handed on
pub record Keeps (taken taken' : Option (List ℕ)) (old new : Session) : Type 0 where
  pub hands : HandsOut taken taken' old.texts new.texts
  pub lines : new.lines ≡ old.lines
  pub run : new.run ≡ old.run

-- why a run ends at the line of n bytes that stands in front
abbrev pub Halted : Stop → ℕ → Session → Type 0
Halted stop.End n s = (take n s.lines.reader ≡ line_text End) × (s.lines.count + size_of n s.lines.reader ≤ most_bytes)
Halted (stop.Refused rule) n s = lowest mode.Device place.Schedule (take n s.lines.reader) ≡ Some rule
Halted stop.Short n s = ⊥
Halted stop.TooLong n s =
    (line : Scheduled) × IsScheduled line × (take n s.lines.reader ≡ schedule_text_of line) × (most_bytes < s.lines.count + size_of n s.lines.reader)
Halted stop.ReadFault n s = ⊥
Halted stop.OutFault n s = ⊤
Halted stop.TraceFault n s = ⊥

-- the run ends there, and the trace took nothing
pub record Stands (s : Stop) (n : ℕ) (took took' : Took) (old new : Session) : Type 0 where
  pub keeps : Keeps took.out took'.out old new
  pub trace : took'.trace ≡ took.trace
  pub halted : Halted s n old

abbrev pub TakesLine : Option Stop → ℕ → Took → Took → Session → Session → Type 0
TakesLine None n took took' old new = Answers true n took took' old new
TakesLine (Some stop.TraceFault) n took took' old new = Answers false n took took' old new
TakesLine (Some stop.End) n took took' old new = Stands stop.End n took took' old new
TakesLine (Some (stop.Refused rule)) n took took' old new = Stands (stop.Refused rule) n took took' old new
TakesLine (Some stop.Short) n took took' old new = Stands stop.Short n took took' old new
TakesLine (Some stop.TooLong) n took took' old new = Stands stop.TooLong n took took' old new
TakesLine (Some stop.ReadFault) n took took' old new = Stands stop.ReadFault n took took' old new
TakesLine (Some stop.OutFault) n took took' old new = Stands stop.OutFault n took took' old new

-- Why a run ends before these bytes of its source, after so many.
abbrev pub IsHalt : Stop → List ℕ → ℕ → Type 0
IsHalt stop.End rest count = (tail : List ℕ) × (closed rest ≡ end_line ++ tail) × (count + given rest end_line ≤ most_bytes)
IsHalt (stop.Refused rule) rest count =
    (bytes tail : List ℕ) × (closed rest ≡ bytes ++ newline ∷ tail) × (is_plain bytes ≡ true)
    × (lowest mode.Device place.Schedule bytes ≡ Some rule)
IsHalt stop.Short rest count = rest ≡ []
IsHalt stop.TooLong rest count =
    (line : Scheduled) × (tail : List ℕ) × IsScheduled line × (closed rest ≡ schedule_text_of line ++ newline ∷ tail)
    × (most_bytes < count + given rest (schedule_text_of line ++ newline ∷ []))
IsHalt stop.ReadFault rest count = ⊤
IsHalt stop.OutFault rest count = ⊤
IsHalt stop.TraceFault rest count = ⊤

-- one line was read, answered and taken
pub record Turns (told : Bool) (left left' : Option (List ℕ)) (took took' : Took) (old new : Session) : Type 0 where
  pub line : DevLine
  pub fits : IsDeviceLine line
  pub gone : Gone left left' old.lines new.lines (line_text (Device line) ++ newline ∷ []) 1
  pub run : Steps old.run new.run line (answer_of old.run line)
  pub trace : Hears told took.trace took'.trace (trace_part new.run.log (answer_of old.run line))
  pub hands : HandsOut took.out took'.out (added_where told old.texts new.run.log (answer_of old.run line)) new.texts
  pub short : new.lines.count ≤ most_bytes
  pub more : old.lines.count < new.lines.count

-- or the run ended before the next line
pub record Halts (s : Stop) (left left' : Option (List ℕ)) (took took' : Took) (old new : Session) : Type 0 where
  pub finds : Finds left left' old.lines new.lines
  pub hands : HandsOut took.out took'.out old.texts new.texts
  pub trace : took'.trace ≡ took.trace
  pub run : new.run ≡ old.run
  pub cause : IsHalt s (new.lines.reader ++ bytes_left left') new.lines.count
  pub cut : s ≡ stop.ReadFault → IsCut new.lines

abbrev pub Goes : Option Stop → Option (List ℕ) → Option (List ℕ) → Took → Took → Session → Session → Type 0
Goes None left left' took took' old new = Turns true left left' took took' old new
Goes (Some stop.TraceFault) left left' took took' old new = Turns false left left' took took' old new
Goes (Some stop.End) left left' took took' old new = Halts stop.End left left' took took' old new
Goes (Some (stop.Refused rule)) left left' took took' old new = Halts (stop.Refused rule) left left' took took' old new
Goes (Some stop.Short) left left' took took' old new = Halts stop.Short left left' took took' old new
Goes (Some stop.TooLong) left left' took took' old new = Halts stop.TooLong left left' took took' old new
Goes (Some stop.ReadFault) left left' took took' old new = Halts stop.ReadFault left left' took took' old new
Goes (Some stop.OutFault) left left' took took' old new = Halts stop.OutFault left left' took took' old new

-- A sink's count of faults where a run stops so: one more where that sink failed. So no sink is written to after a fault.
abbrev pub out_faults : Stop → ℕ → ℕ
out_faults stop.End n = n
out_faults (stop.Refused rule) n = n
out_faults stop.Short n = n
out_faults stop.TooLong n = n
out_faults stop.ReadFault n = n
out_faults stop.OutFault n = counted n
out_faults stop.TraceFault n = n

abbrev pub trace_faults : Stop → ℕ → ℕ
trace_faults stop.End n = n
trace_faults (stop.Refused rule) n = n
trace_faults stop.Short n = n
trace_faults stop.TooLong n = n
trace_faults stop.ReadFault n = n
trace_faults stop.OutFault n = n
trace_faults stop.TraceFault n = counted n

-- and where it may go on
abbrev pub out_faults_at : Option Stop → ℕ → ℕ
out_faults_at None n = n
out_faults_at (Some s) n = out_faults s n

abbrev pub trace_faults_at : Option Stop → ℕ → ℕ
trace_faults_at None n = n
trace_faults_at (Some s) n = trace_faults s n

-- the accesses of these lines are in order, and those of the next one will be
pub record StayInOrder (loads : ℕ → Bool) (turns : List Turn) : Type 0 where
  pub in_order : AreInOrder turns
  pub rests : Rests loads (after_runs unused (map (λ turn. turn.accesses) turns))

-- from the schedule's start, these lines were read and answered
pub record Progress (left left' : Option (List ℕ)) (took took' : Took) (old new : Session) : Type 0 where
  pub lines : List DevLine
  pub fits : AllByRecursion IsDeviceLine lines
  pub gone : Gone left left' old.lines new.lines (schedule_text lines) (length lines)
  pub turns : List Turn
  pub traces : IsTrace (world old.run) lines turns
  pub order : StayInOrder (loads_of new.run) turns
  pub trace : Takes took.trace took'.trace (trace_text turns)
  pub hands : HandsOut took.out took'.out (texts_of old.texts.regs turns) new.texts
  pub same : world new.run ≡ world old.run
  pub device : new.run.device ≡ state_after (whole (world old.run)) lines
  pub apart : Isolates (world old.run)
  pub table : new.run.table ≡ after_turns (opened FS4) turns
  pub short : new.lines.count ≤ most_bytes
  pub few : new.lines.lines ≤ new.lines.count

-- What the sinks took of the text of these lines. The trace has the text of the first ones whole, and the front of that of
-- the others; the output has the front of that of the first ones alone. There are others only where the trace failed.
pub record Sinks (s : Stop) (took took' : Took) (regs : Bool) (turns : List Turn) (new : Texts) : Type 0 where
  pub done : List Turn
  pub rest : List Turn
  pub lines : turns ≡ done ++ rest
  pub given : List ℕ
  pub more : List ℕ
  pub part : trace_text rest ≡ given ++ more
  pub trace : Takes took.trace took'.trace (trace_text done ++ given)
  pub hands : HandsOut took.out took'.out (texts_of regs done) new
  pub whole : (s ≡ stop.TraceFault → ⊥) → rest ≡ []

-- and then the run ended
pub record Runs (s : Stop) (left left' : Option (List ℕ)) (took took' : Took) (old new : Session) : Type 0 where
  pub lines : List DevLine
  pub fits : AllByRecursion IsDeviceLine lines
  pub gone : Gone left left' old.lines new.lines (schedule_text lines) (length lines)
  pub turns : List Turn
  pub traces : IsTrace (world old.run) lines turns
  pub in_order : AreInOrder turns
  pub sinks : Sinks s took took' old.texts.regs turns new.texts
  pub short : new.lines.count ≤ most_bytes
  pub few : new.lines.lines ≤ new.lines.count
  pub cause : IsHalt s (new.lines.reader ++ bytes_left left') new.lines.count
  pub cut : s ≡ stop.ReadFault → IsCut new.lines

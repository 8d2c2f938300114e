-- What reading a head did.
use Rattle.std.specs.Prelude.{◌≡◌, ℕ, ◌+◌, ◌*◌, ◌<◌, ◌≤◌, List, [], ◌∷◌, ◌++◌, length, true, false, ◌⊎◌, Option, Some, Result, Ok, Err}
use Rattle.usb_edge.specs.Stream.{Rose}
use Rattle.line_rules.specs.declared.rules.Mode.TheVariants as mode
use Rattle.line_rules.specs.declared.rules.Place.TheVariants as place
use Rattle.line_rules.specs.Rules.{lowest, most_line}
use Rattle.usb_text.specs.declared.head.HeadLine.{HeadLine}
use Rattle.usb_text.specs.Line.{newline}
use Rattle.usb_text.specs.Head.{head_text, IsHead}
use Rattle.usb_text.specs.Plain.{is_plain}
use Rattle.device_text.specs.Job.{head_line, head_lines, closed, IsHeadSoFar, is_whole}
use Rattle.job_reader.specs.Stream.{bytes_left}
use Rattle.job_reader.specs.Lines.{Finds, Gone, IsCut}
use Rattle.job_reader.specs.Draft.{IsDraft, Ascends, accepts, rank}
use Rattle.job_reader.specs.declared.lines.Lines.{Lines}
use Rattle.job_reader.specs.declared.draft.Draft.{Draft}
use Rattle.job_reader.specs.declared.head.NoHead.{NoHead}
use Rattle.job_reader.specs.declared.head.NoHead.TheVariants.{Refused, Short, ReadFault}

abbrev pub new_lines : Lines
new_lines = record { reader = []; ended = false; count = 0; lines = 0 }

-- how many lines a head has at most: the device descriptor, the configuration, eight strings, the report
-- descriptor, and `begin`
abbrev pub most_heads : ℕ
most_heads = 12

-- the most bytes of a line with its newline
abbrev pub most_size : ℕ
most_size = most_line + 1

-- one line was read and taken
pub record TakesHead (line : HeadLine) (draft : Draft) (left left' : Option (List ℕ)) (old new : Lines) : Type 0 where
  pub fits : IsHead line
  pub accepted : accepts draft.stage (length draft.strings.items) line ≡ true
  pub gone : Gone left left' old new (head_line line) 1
  pub size : new.count ≤ old.count + most_size
  pub more : old.count < new.count

-- a rule that a line breaks
abbrev pub BreaksHead : Draft → List ℕ → ℕ → Type 0
BreaksHead draft bytes rule =
    (lowest mode.Device place.Head bytes ≡ Some rule)
    ⊎ ((rule ≡ 8) × ((line : HeadLine) × IsHead line × (bytes ≡ head_text line) × (accepts draft.stage (length draft.strings.items) line ≡ false)))

-- or no line was, for this cause
abbrev pub HeadCause : NoHead → Draft → List ℕ → ℕ → ℕ → Type 0
HeadCause (Refused rule) draft rest faults faults' =
    (bytes tail : List ℕ) × (closed rest ≡ bytes ++ newline ∷ tail) × (is_plain bytes ≡ true) × BreaksHead draft bytes rule
HeadCause Short draft rest faults faults' = rest ≡ []
HeadCause ReadFault draft rest faults faults' = Rose faults faults'

pub record FailsHead (e : NoHead) (draft : Draft) (left left' : Option (List ℕ)) (faults faults' : ℕ) (old new : Lines) : Type 0 where
  pub finds : Finds left left' old new
  pub cause : HeadCause e draft (new.reader ++ bytes_left left') faults faults'
  pub cut : e ≡ ReadFault → IsCut new

abbrev pub ReadsHead : Result HeadLine NoHead → Draft → Option (List ℕ) → Option (List ℕ) → ℕ → ℕ → Lines → Lines → Type 0
ReadsHead (Ok line) draft left left' faults faults' old new = TakesHead line draft left left' old new
ReadsHead (Err e) draft left left' faults faults' old new = FailsHead e draft left left' faults faults' old new

-- these lines of a head were read and taken
pub record HeadSoFar (draft : Draft) (left left' : Option (List ℕ)) (old new : Lines) : Type 0 where
  pub heads : List HeadLine
  pub lines : IsHeadSoFar heads
  pub holds : IsDraft draft heads
  pub gone : Gone left left' old new (head_lines heads) (length heads)
  pub size : new.count ≤ most_size * new.lines
  pub paid : new.lines ≤ new.count
  pub few : new.lines ≤ rank draft.stage + length draft.strings.items
  pub room : length draft.strings.items ≤ 8
  pub rises : Ascends draft.stage draft.strings.items

-- and then a line was refused, or there was none
pub record HeadStops (e : NoHead) (left left' : Option (List ℕ)) (faults faults' : ℕ) (old new : Lines) : Type 0 where
  pub draft : Draft
  pub so_far : HeadSoFar draft left left' old new
  pub unfinished : is_whole so_far.heads ≡ false
  pub cause : HeadCause e draft (new.reader ++ bytes_left left') faults faults'
  pub cut : e ≡ ReadFault → IsCut new

abbrev pub ReadsHeads : Result Draft NoHead → Option (List ℕ) → Option (List ℕ) → ℕ → ℕ → Lines → Lines → Type 0
ReadsHeads (Ok draft) left left' faults faults' old new = (h : HeadSoFar draft left left' old new) × (is_whole h.heads ≡ true)
ReadsHeads (Err e) left left' faults faults' old new = HeadStops e left left' faults faults' old new

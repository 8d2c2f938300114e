-- How the reading of a job ends, by the bytes of its source alone.
use Rattle.std.specs.Prelude.{◌≡◌, ℕ, ◌+◌, ◌<◌, ◌≤◌, List, [], ◌∷◌, ◌++◌, length, map, Bool, true, false, ◌⊎◌, Some, None}
use Rattle.std.specs.List.{AllByRecursion}
use Rattle.usb_descriptor.specs.declared.limits.SetFault.{SetFault}
use Rattle.usb_descriptor.specs.Set.{Set}
use Rattle.usb_descriptor.specs.Strings.{string_descriptor}
use Rattle.line_rules.specs.declared.rules.Mode.TheVariants as mode
use Rattle.line_rules.specs.declared.rules.Place.TheVariants as place
use Rattle.line_rules.specs.Rules.{lowest}
use Rattle.device_line.specs.declared.line.DevLine.{DevLine}
use Rattle.usb_text.specs.Scheduled.{Scheduled}
use Rattle.usb_text.specs.declared.head.HeadLine.{HeadLine}
use Rattle.usb_text.specs.Line.{newline, schedule_text_of, IsScheduled, IsDeviceLine}
use Rattle.usb_text.specs.Head.{head_text, IsHead}
use Rattle.usb_text.specs.Plain.{is_plain}
use Rattle.device_text.specs.Job.{Job, Spells, IsHeadSoFar, IsAccepted, is_whole, in_order, set_fault, parts_of, front_text, closed, given, most_bytes}

-- the set of descriptors that a head gives
abbrev pub set_of : List HeadLine → Set
set_of head = record {
  device = (parts_of head).device;
  config = (parts_of head).config;
  strings = map string_descriptor (parts_of head).strings;
  report = (parts_of head).report;
}

-- These bytes begin with lines of a head and, where that is a whole one with an accepted set, of a schedule.
-- `rest` is what follows them.
pub record Front (input : List ℕ) (head : List HeadLine) (schedule : List DevLine) (rest : List ℕ) : Type 0 where
  pub text : closed input ≡ front_text head schedule ++ rest
  pub short : given input (front_text head schedule) ≤ most_bytes
  pub lines : IsHeadSoFar head
  pub fits : AllByRecursion IsDeviceLine schedule
  pub accepted : (schedule ≡ []) ⊎ IsAccepted head

-- A rule that a line breaks, after the lines of the head before it: the lowest of 1 to 7, or in the head, of a line
-- that breaks none of those, 8.
abbrev pub Breaks : Bool → List HeadLine → List ℕ → ℕ → Type 0
Breaks true head bytes rule = IsAccepted head × (lowest mode.Device place.Schedule bytes ≡ Some rule)
Breaks false head bytes rule =
    (lowest mode.Device place.Head bytes ≡ Some rule)
    ⊎ ((rule ≡ 8) × ((line : HeadLine) × IsHead line × (bytes ≡ head_text line) × (in_order head line ≡ false)))

-- the first line that is refused has this number, from 1 on, and breaks this rule
pub record RefusesLine (input : List ℕ) (line rule : ℕ) : Type 0 where
  pub head : List HeadLine
  pub schedule : List DevLine
  pub bytes : List ℕ
  pub rest : List ℕ
  pub front : Front input head schedule (bytes ++ newline ∷ rest)
  pub plain : is_plain bytes ≡ true
  pub number : line ≡ length head + length schedule + 1
  pub broken : Breaks (is_whole head) head bytes rule

-- a whole head, whose set breaks a rule
pub record RefusesSet (input : List ℕ) (fault : SetFault) : Type 0 where
  pub head : List HeadLine
  pub rest : List ℕ
  pub front : Front input head [] rest
  pub whole : is_whole head ≡ true
  pub broken : set_fault head ≡ Some fault

-- the source ended after so many lines, of which none was `end`
pub record EndsShort (input : List ℕ) (lines : ℕ) : Type 0 where
  pub head : List HeadLine
  pub schedule : List DevLine
  pub front : Front input head schedule []
  pub number : lines ≡ length head + length schedule
  pub set : is_whole head ≡ true → set_fault head ≡ None

-- a line of the schedule, or its `end`, passes the limit of bytes
pub record PassesLimit (input : List ℕ) : Type 0 where
  pub head : List HeadLine
  pub schedule : List DevLine
  pub line : Scheduled
  pub rest : List ℕ
  pub front : Front input head schedule (schedule_text_of line ++ newline ∷ rest)
  pub fits : IsScheduled line
  pub accepted : IsAccepted head
  pub long : most_bytes < given input (front_text head schedule ++ (schedule_text_of line ++ newline ∷ []))

-- how a reading ends
pub data Outcome : Type 0 where
  Whole : (job : Job) → Outcome
  BadLine : (line rule : ℕ) → Outcome
  BadSet : (fault : SetFault) → Outcome
  Short : (lines : ℕ) → Outcome
  TooLong : Outcome

abbrev pub IsOutcome : List ℕ → Outcome → Type 0
IsOutcome input (Whole job) = Spells input job
IsOutcome input (BadLine line rule) = RefusesLine input line rule
IsOutcome input (BadSet fault) = RefusesSet input fault
IsOutcome input (Short lines) = EndsShort input lines
IsOutcome input TooLong = PassesLimit input

-- a reading that ends in the head, or at its set: nothing was answered yet
abbrev pub EndsInHead : List ℕ → Outcome → Type 0
EndsInHead input (Whole job) = ⊥
EndsInHead input (BadLine line rule) = (r : RefusesLine input line rule) × (is_whole r.head ≡ false)
EndsInHead input (BadSet fault) = RefusesSet input fault
EndsInHead input (Short lines) = (s : EndsShort input lines) × (is_whole s.head ≡ false)
EndsInHead input TooLong = ⊥

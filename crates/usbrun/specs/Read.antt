-- What a run read of its source.
use Rattle.std.specs.Prelude.{◌≡◌, ℕ, ◌≤◌, List, [], ◌++◌, length, true, Option, Some, None}
use Rattle.line_rules.specs.Rules.{most_line}
use Rattle.device_line.specs.declared.line.DevLine.{DevLine}
use Rattle.usb_text.specs.declared.head.HeadLine.{HeadLine}
use Rattle.usb_text.specs.Plain.{is_plain}
use Rattle.device_text.specs.Job.{IsAccepted, front_text, closed, is_whole, set_fault}
use Rattle.device_text.specs.Outcome.{Front}

-- what holds of the bytes that a source had: where it tells them, of those; else of some bytes
abbrev pub Told : Option (List ℕ) → (List ℕ → Type 0) → Type 0
Told (Some input) P = P input
Told None P = (input : List ℕ) × P input

-- what holds of those bytes and of what is left of them now
abbrev pub ToldBoth : Option (List ℕ) → Option (List ℕ) → (List ℕ → List ℕ → Type 0) → Type 0
ToldBoth (Some input) (Some left) P = P input left
ToldBoth None None P = (input : List ℕ) × P input []
ToldBoth (Some input) None P = ⊥
ToldBoth None (Some left) P = ⊥

-- All whole lines of what was read, which is all but what is left: of the next line only a part was read, and neither the
-- set nor a line before it was refused.
pub record ReadSoFar (input left : List ℕ) : Type 0 where
  pub head : List HeadLine
  pub schedule : List DevLine
  pub part : List ℕ
  pub text : input ≡ front_text head schedule ++ (part ++ left)
  pub plain : is_plain part ≡ true
  pub part_of_line : length part ≤ most_line
  pub front : Front input head schedule (closed (part ++ left))
  pub set : is_whole head ≡ true → set_fault head ≡ None

-- a whole head with an accepted set and lines of a schedule, which the bytes begin with, and what follows
pub record Begins (input : List ℕ) : Type 0 where
  pub head : List HeadLine
  pub schedule : List DevLine
  pub rest : List ℕ
  pub front : Front input head schedule rest
  pub accepted : IsAccepted head

-- the bytes begin with a whole head with an accepted set
pub record HasHead (input : List ℕ) : Type 0 where
  pub head : List HeadLine
  pub rest : List ℕ
  pub front : Front input head [] rest
  pub accepted : IsAccepted head

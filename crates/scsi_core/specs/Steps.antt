-- What the functions behind `command` tell each other, in the words of the table.
use Rattle.std.specs.Prelude.{◌≡◌, ℕ, List, Some, None, Result, Ok, Err, MatchResult}
use Rattle.scsi_core.specs.declared.Sense.{Sense}
use Rattle.scsi_core.specs.declared.Unit.{Unit as Disk}
use Rattle.scsi_core.specs.declared.Move.{Move}
use Rattle.scsi_core.specs.Command.{Outcome, done, failed, Question, table, row_of, by_row}

-- a question that the code asked, by what it answered and the unit before and after
abbrev pub Asks : Question → Disk → Disk → List ℕ → Result Unit Sense → Type 0
Asks question old new cdb r =
    MatchResult r (λ _. (new ≡ old) × (question old cdb ≡ None)) (λ sense. question old cdb ≡ Some (failed sense new))

-- the outcome that an answer stands for, where the failure is still to set the sense
abbrev pub outcome_of : Result Move Sense → Disk → Outcome
outcome_of (Ok moves) unit = done moves unit
outcome_of (Err sense) unit = failed sense unit

-- the code of the row for this operation code, by what it answered and the unit before and after
abbrev pub Works : ℕ → Disk → Disk → List ℕ → Result Move Sense → Type 0
Works code old new cdb r = outcome_of r new ≡ by_row (row_of table code) old cdb

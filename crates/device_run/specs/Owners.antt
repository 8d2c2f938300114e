-- Lines one after another, and whose their answers are.
use Rattle.std.specs.Prelude.{◌≡◌, List, [], ◌∷◌}
use Rattle.device_line.specs.declared.line.DevLine.{DevLine}
use Rattle.device_line.specs.declared.line.Answer.{Answer}
use Rattle.device_owners.specs.Device.{start}
use Rattle.device_owners.specs.Isolation.{Isolates}
use Rattle.device_schedule.specs.Schedule.{answers}
use Rattle.device_run.specs.Run.{Run, Steps, world}

-- one step for each line, with these answers
abbrev pub StepBy : Run → List DevLine → List Answer → Run → Type 0
StepBy old [] [] new = new ≡ old
StepBy old (line ∷ lines) (answer ∷ answers) new = (mid : Run) × Steps old mid line answer × StepBy mid lines answers new
StepBy old [] (answer ∷ answers) new = ⊥
StepBy old (line ∷ lines) [] new = ⊥

-- from a device at its start on, each answer is that of its line's owner: of its own machine over its part of the lines before, alone
abbrev pub StepsAreOfOwners : Type 0
StepsAreOfOwners = (first last : Run) (lines : List DevLine) (given : List Answer) → first.device ≡ start (world first) → Isolates (world first)
    → StepBy first lines given last → given ≡ answers (world first) lines

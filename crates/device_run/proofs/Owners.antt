-- Steps one after another answer as the owners do.
use Rattle.std.proofs.Common.{◌≡◌, List, [], ◌∷◌, ◌++◌, refl, ap, sym, ◌∙◌, subst}
use Rattle.device_line.specs.declared.line.DevLine.{DevLine}
use Rattle.device_line.specs.declared.line.Answer.{Answer}
use Rattle.device_owners.specs.Device.{Device, World, start}
use Rattle.device_owners.specs.Lines.{whole, line_answer, after_line, state_after, answer_to}
use Rattle.device_owners.specs.Isolation.{Isolates}
use Rattle.device_world.specs.State.{State}
use Rattle.device_world.specs.World.{world_of}
use Rattle.device_schedule.specs.Schedule.{answers_after}
use Rattle.device_schedule.proofs.Answers.{state_after-more}
use Rattle.device_run.specs.Run.{Run, Steps, world}
use Rattle.device_run.specs.Owners.{StepBy, StepsAreOfOwners}

-- a run of this world after some lines
record Is (w : World State) (before : List DevLine) (r : Run) : Type 0 where
  pub world : world r ≡ w
  pub device : r.device ≡ state_after (whole w) before

answered : (w : World State) → Isolates w → (before : List DevLine) (old new : Run) (line : DevLine) (answer : Answer) → Is w before old → Steps old new line answer
    → answer ≡ answer_to w before line
answered w apart before old new line answer is s =
    s.answered ∙ ap (λ (x : World State). line_answer (whole x) old.device line) is.world ∙ ap (λ (d : Device State). line_answer (whole w) d line) is.device
    ∙ apart.answers before line

went_on : (w : World State) (before : List DevLine) (old new : Run) (line : DevLine) (answer : Answer) → Is w before old → Steps old new line answer
    → Is w (before ++ line ∷ []) new
went_on w before old new line answer is s = record {
  world = ap (λ set. world_of set new.blocks) s.set ∙ ap (world_of old.set) s.blocks ∙ is.world;
  device =
      s.device ∙ ap (λ (x : World State). after_line (whole x) old.device line) is.world ∙ ap (λ (d : Device State). after_line (whole w) d line) is.device
      ∙ sym (state_after-more w before line);
}

along : (w : World State) → Isolates w → (before lines : List DevLine) (given : List Answer) (old new : Run) → Is w before old → StepBy old lines given new
    → given ≡ answers_after w before lines
along w apart before [] [] old new is s = refl
along w apart before (line ∷ lines) (answer ∷ given) old new is s =
    ap (λ a. a ∷ given) (answered w apart before old s.0 line answer is s.1)
    ∙ ap (λ rest. answer_to w before line ∷ rest) (along w apart (before ++ line ∷ []) lines given s.0 new (went_on w before old s.0 line answer is s.1) s.2)
along w apart before [] (answer ∷ given) old new is s = absurd s
along w apart before (line ∷ lines) [] old new is s = absurd s

pub steps_are : StepsAreOfOwners
steps_are first last lines given at apart s = along (world first) apart [] lines given first last (record { world = refl; device = at }) s

-- The accesses to registers of a device's run, line by line.
use Rattle.std.specs.Prelude.{◌≡◌, ◌≤◌, List, [], ◌∷◌, length, map}
use Rattle.std.specs.List.{AllByRecursion}
use Rattle.dwc2_regs.specs.declared.access.TheConstants.{FS4}
use Rattle.dwc2_regs.specs.declared.access.Access.{Access}
use Rattle.device_table.specs.State.{Table, opened}
use Rattle.device_table.specs.Bank.{most_accesses}
use Rattle.device_table.specs.Bus as table
use Rattle.dwc2_access.specs.Run.{AreSteps, accesses_after}
use Rattle.register_text.specs.Access.{IsAccess}
use Rattle.device_line.specs.declared.line.DevLine.{DevLine}
use Rattle.device_line.specs.declared.line.DevLine.TheVariants.{Bus, Irq, Task, Call}
use Rattle.device_line.specs.declared.line.Answer.{Answer}
use Rattle.device_line.specs.declared.line.Answer.TheVariants as answer
use Rattle.device_owners.specs.Device.{World}
use Rattle.device_schedule.specs.Schedule.{answers}

-- a line of a schedule, the accesses made for it, the oldest first, and its answer
pub record Turn : Type 0 where
  pub line : DevLine
  pub accesses : List Access
  pub answer : Answer

-- the accesses for a line are steps of the controller, at most 400, with offsets of 16 bits and words of 32
abbrev pub AreWork : Table → List Access → Type 0
AreWork t accesses = AreSteps t accesses × (length accesses ≤ most_accesses) × AllByRecursion IsAccess accesses

-- a line of the bus has no accesses, and its answer is what the controller's bus event gives
abbrev pub IsTurn : Table → DevLine → List Access → Answer → Type 0
IsTurn t (Bus e) accesses a = (accesses ≡ []) × (a ≡ answer.Bus (table.bus_answer t e))
IsTurn t Irq accesses a = AreWork t accesses
IsTurn t Task accesses a = AreWork t accesses
IsTurn t (Call call) accesses a = AreWork t accesses

-- the controller after a line
abbrev pub after_turn : Table → DevLine → List Access → Table
after_turn t (Bus e) accesses = table.after_bus t e
after_turn t Irq accesses = accesses_after t accesses
after_turn t Task accesses = accesses_after t accesses
after_turn t (Call call) accesses = accesses_after t accesses

-- and after many
abbrev pub after_turns : Table → List Turn → Table
after_turns t [] = t
after_turns t (turn ∷ turns) = after_turns (after_turn t turn.line turn.accesses) turns

-- lines one after another, each from the controller that those before it left
abbrev pub AreTurns : Table → List Turn → Type 0
AreTurns t [] = Unit {0}
AreTurns t (turn ∷ turns) = IsTurn t turn.line turn.accesses turn.answer × AreTurns (after_turn t turn.line turn.accesses) turns

-- the lines of a schedule with their answers, and with accesses that are a run of the controller from its opened state on
pub record IsTrace {S : Type 0} (world : World S) (schedule : List DevLine) (turns : List Turn) : Type 0 where
  pub lines : map (λ turn. turn.line) turns ≡ schedule
  pub answers : map (λ turn. turn.answer) turns ≡ answers world schedule
  pub run : AreTurns (opened FS4) turns

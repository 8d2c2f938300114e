-- A device between two lines of its schedule, and what a line makes of it.
use Rattle.std.specs.Prelude.{◌≡◌, ℕ, Bool, true, List, Option}
use Rattle.dwc2_regs.specs.declared.access.Access.{Access}
use Rattle.device_table.specs.State.{Table}
use Rattle.access_order.specs.Order.{Order, is_run, after_run}
use Rattle.access_order.specs.Phase.{Over}
use Rattle.endpoint_relation.specs.declared.in_.InEndpoint.{InEndpoint}
use Rattle.dwc2_device.specs.Order.{loaded_in}
use Rattle.usb_descriptor.specs.Set.{Set}
use Rattle.device_line.specs.declared.line.DevLine.{DevLine}
use Rattle.device_line.specs.declared.line.Answer.{Answer}
use Rattle.device_owners.specs.Device.{Device, World}
use Rattle.device_owners.specs.Lines.{whole, line_answer, after_line}
use Rattle.device_world.specs.State.{State}
use Rattle.device_world.specs.World.{world_of}
use Rattle.device_schedule.specs.Turns.{IsTurn, after_turn}

pub record Run : Type 0 where
  -- its descriptors, and the blocks of its disk, where it has one
  pub set : Set
  pub blocks : Option ℕ
  -- the core with its pipes, and the classes
  pub device : Device State
  -- the controller
  pub table : Table
  -- what the driver keeps of the IN endpoints
  pub ins : List InEndpoint
  -- the accesses of the last line, the oldest first
  pub log : List Access

-- the world that it is of
abbrev pub world : Run → World State
world r = world_of r.set r.blocks

-- what it answers to a line
abbrev pub answer_of : Run → DevLine → Answer
answer_of r line = line_answer (whole (world r)) r.device line

-- on which IN endpoints packets are loaded
abbrev pub loads_of : Run → ℕ → Bool
loads_of r = loaded_in r.ins

-- what holds of the order of accesses from line to line
abbrev pub Rests : (ℕ → Bool) → Order → Type 0
Rests = Over

-- the accesses of a line are in order behind those of the lines before, and it holds again
pub record StaysInOrder (loads loads' : ℕ → Bool) (log : List Access) : Type 0 where
  pub run : (o : Order) → Rests loads o → is_run o log ≡ true
  pub rests : (o : Order) → Rests loads o → Rests loads' (after_run o log)

-- One line: the whole device answers it and goes on, and the controller goes on by the accesses and by the event of the line, which
-- give that answer too. The accesses are in order.
pub record Steps (old new : Run) (line : DevLine) (answer : Answer) : Type 0 where
  pub set : new.set ≡ old.set
  pub blocks : new.blocks ≡ old.blocks
  pub answered : answer ≡ answer_of old line
  pub device : new.device ≡ after_line (whole (world old)) old.device line
  pub turn : IsTurn old.table line new.log answer
  pub table : new.table ≡ after_turn old.table line new.log
  pub order : StaysInOrder (loads_of old) (loads_of new) new.log

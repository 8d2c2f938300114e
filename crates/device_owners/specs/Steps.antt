-- What each step of a device makes of its endpoints other than 0: which are open, which are served, which are halted.
use Rattle.std.specs.Prelude.{◌≡◌, ◌≢◌, ℕ, Bool, true, false, Some, None}
use Rattle.usb_packet.specs.declared.bus.BusEvent.{BusEvent}
use Rattle.usb_packet.specs.declared.bus.Owner as declared
use Rattle.usb_control.specs.declared.state.Effect.TheVariants as effect
use Rattle.usb_control.specs.Table.{is_halted}
use Rattle.device_line.specs.declared.call.DevCall.{DevCall}
use Rattle.device_pipe.specs.InPipe.{is_closed}
use Rattle.usb_pipe.specs.Own.{Own}
use Rattle.device_machine.specs.Bus.{pipes_after, finished_stage}
use Rattle.device_machine.specs.Pipes.{is_out_open, is_open_at, pipes_unopened, pipes_after_irq, pipes_after_task}
use Rattle.device_machine.specs.Laws.{AreOf, IsAddress}
use Rattle.device_owners.specs.Device.{World, Machinery, Device, start, core_state, known_endpoints, after_bus, new_address, after_irq, with_control_worked, with_notes_taken, after_task, changed}
use Rattle.device_owners.specs.Lines.{after_call}

-- Open endpoints.

-- those that are open, other than 0, are those that the session has of the owners that a machine knows
abbrev pub IsOpen : {S : Type 0} → Machinery S → Device S → Type 0
IsOpen m d = AreOf (known_endpoints m d.core.session) d.core.pipes

-- pipes that stay as open as they were
pub record StayOpen (old new : Own) : Type 0 where
  pub sends : is_closed new.sends.pipe.phase ≡ is_closed old.sends.pipe.phase
  pub receives : is_out_open new.receives.pipe.phase ≡ is_out_open old.receives.pipe.phase
  pub notifies : is_closed new.notifies.pipe.phase ≡ is_closed old.notifies.pipe.phase

-- classes that open and close none
pub record OpenNone {S : Type 0} (world : World S) : Type 0 where
  pub work : (o : declared.Owner) (s : S) (own : Own) → StayOpen own ((world.rules o).pipes_after_work s own)
  pub call : (o : declared.Owner) (s : S) (own : Own) (asked : DevCall) → StayOpen own ((world.calls o).pipes_after_call s own asked)

-- so it is at the start, and each step keeps it: where classes work on pipes, as long as they open and close none
pub record StaysOpen {S : Type 0} (m : Machinery S) : Type 0 where
  pub first : IsOpen m (start m.world)
  pub bus : (d : Device S) (e : BusEvent) → IsOpen m d → IsOpen m (after_bus d e)
  pub irq : (d : Device S) → IsOpen m d → IsOpen m (after_irq m d)
  pub taken : (d : Device S) → IsOpen m d → IsOpen m (with_notes_taken m (with_control_worked m d))
  pub task : OpenNone m.world → (d : Device S) → IsOpen m d → IsOpen m (after_task m d)
  pub call : OpenNone m.world → (d : Device S) (o : declared.Owner) (asked : DevCall) → IsOpen m d → IsOpen m (after_call m d o asked)

-- A bus event, a handler run and a task run serve every pipe: but a handler run that sets a new address leaves them as they are (9.4.6), and
-- one that serves a reset leaves nothing of them. A task works a request before it takes the pipes' notes, and then its classes work.
pub record CoreServes {S : Type 0} (m : Machinery S) (d : Device S) : Type 0 where
  pub bus : (e : BusEvent) → (after_bus d e).core.pipes ≡ pipes_after d.core.bus d.core.pipes e
  pub irq : d.core.bus.reset ≡ false → new_address d.core.transfer (finished_stage d.core.bus.side) ≡ None → (after_irq m d).core.pipes ≡ pipes_after_irq d.core.pipes
  pub addressed : d.core.bus.reset ≡ false → (n : ℕ) → new_address d.core.transfer (finished_stage d.core.bus.side) ≡ Some n → (after_irq m d).core.pipes ≡ d.core.pipes
  pub reset : d.core.bus.reset ≡ true → (after_irq m d).core.pipes ≡ pipes_unopened
  pub task : (with_notes_taken m (with_control_worked m d)).core.pipes ≡ pipes_after_task (with_control_worked m d).core.pipes
  pub quiet : d.core.request ≡ None → (with_notes_taken m (with_control_worked m d)).core.pipes ≡ pipes_after_task d.core.pipes

-- Halts: what GET_STATUS tells of the endpoint at an address (9.4.5).
abbrev pub tells_halt : {S : Type 0} → Device S → ℕ → Bool
tells_halt d address = is_halted (core_state d.core) address

-- SET_FEATURE halts an open endpoint, CLEAR_FEATURE ends its halt, and either leaves the others (9.4.1, 9.4.9)
pub record HaltsOne {S : Type 0} (m : Machinery S) (d : Device S) (address : ℕ) : Type 0 where
  pub halts : is_open_at d.core.pipes address ≡ true → tells_halt (changed m d (effect.Halt address)) address ≡ true
  pub clears : is_open_at d.core.pipes address ≡ true → tells_halt (changed m d (effect.Clear address)) address ≡ false
  pub halts_others : (other : ℕ) → IsAddress other → other ≢ address → tells_halt (changed m d (effect.Halt address)) other ≡ tells_halt d other
  pub clears_others : (other : ℕ) → IsAddress other → other ≢ address → tells_halt (changed m d (effect.Clear address)) other ≡ tells_halt d other

-- SET_CONFIGURATION ends all (9.1.1.5). Neither a packet, nor a handler run that finds no reset, nor a task that has no SETUP
-- changes any before its classes work; a reset that is served ends all
pub record KeepsHalts {S : Type 0} (m : Machinery S) (d : Device S) : Type 0 where
  pub session : (begins : Bool) (address : ℕ) → IsAddress address → tells_halt (changed m d (effect.Configure begins)) address ≡ false
  pub bus : (e : BusEvent) (address : ℕ) → tells_halt (after_bus d e) address ≡ tells_halt d address
  pub irq : d.core.bus.reset ≡ false → (address : ℕ) → tells_halt (after_irq m d) address ≡ tells_halt d address
  pub reset : d.core.bus.reset ≡ true → (address : ℕ) → IsAddress address → tells_halt (after_irq m d) address ≡ false
  pub task : d.core.request ≡ None → (address : ℕ) → tells_halt (with_notes_taken m (with_control_worked m d)) address ≡ tells_halt d address

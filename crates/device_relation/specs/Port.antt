-- The device with the driver's notes, and what a handler run and each call make of it.
use Rattle.std.specs.Prelude.{◌≡◌, ℕ, Bool, true, false, if◌then◌else◌, List, [], ◌∷◌, Option, Some, None}
use Rattle.usb_descriptor.specs.declared.endpoint.Endpoint.{Endpoint}
use Rattle.dwc2_regs.specs.declared.access.Profile.{Profile}
use Rattle.device_machine.specs.declared.control.Stage.{Stage}
use Rattle.device_machine.specs.declared.control.Stage.TheVariants.{Sent, Came}
use Rattle.device_machine.specs.declared.control.Side.{Side}
use Rattle.device_machine.specs.declared.control.Side.TheVariants.{Off, Wait, Loaded, Last, Armed, Stall, Finished}
use Rattle.device_machine.specs.Bus.{Bus, unconfigured, last_of, finished_stage, loaded}
use Rattle.device_pipe.specs.OutPipe as out
use Rattle.device_pipe.specs.OutPipe.{OutPipe}
use Rattle.device_pipe.specs.InPipe as inward
use Rattle.device_pipe.specs.InPipe.{InPipe}
use Rattle.device_machine.specs.Pipes.{Pipes, OutSlot, InSlot, pipes_unopened, pipes_after_irq, pipes_closed, with_endpoint_open, with_halt, without_halt}
use Rattle.device_machine.specs.Pipes.{out_slot, in_slot, with_out_slot, with_in_slot, changed_at, out_slot_after_task, in_slot_after_task}
use Rattle.device_rings.specs.Rings.{Rings}
use Rattle.device_relation.specs.Software.{Joint}
use Rattle.device_relation.specs.Relation.{Stands, was_heard, abstract}
use Rattle.device_relation.specs.PipeRelation.{PipesStand, pipes_of}

pub record Port : Type 0 where
  pub bus : Bus
  -- the endpoints other than 0
  pub pipes : Pipes
  -- a SETUP was taken since the last reset that was served
  pub heard : Bool
  -- the address that the device has once the packet that is ready is acknowledged
  pub next_address : Option ℕ
  -- the notes that nobody has taken: a reset, a stage that finished, a SETUP
  pub reset : Bool
  pub finished : Option Stage
  pub request : Option (List ℕ)

-- controller and software stand for a device with notes, as far as endpoint 0 goes
pub record StandsFor (profile : Profile) (j : Joint) (p : Port) : Type 0 where
  pub stands : Stands profile j.table j.software p.bus
  pub heard : p.heard ≡ was_heard j.software.heard
  pub next_address : p.next_address ≡ j.software.next_address
  pub reset : p.reset ≡ j.software.reset
  pub finished : p.finished ≡ j.software.finished
  pub request : p.request ≡ j.software.request

-- and, with the rings, for all of it
pub record AllStandFor (profile : Profile) (j : Joint) (r : Rings) (p : Port) : Type 0 where
  pub zero : StandsFor profile j p
  pub pipes : PipesStand profile j.table j.software r p.pipes

abbrev pub port_of : Joint → Rings → Port
port_of j r = record { bus = abstract j; pipes = pipes_of j r; heard = was_heard j.software.heard; next_address = j.software.next_address; reset = j.software.reset; finished = j.software.finished; request = j.software.request }

-- a handler run that serves a reset empties everything and notes it
abbrev pub port_reset : Port
port_reset = record { bus = unconfigured true; pipes = pipes_unopened; heard = false; next_address = None; reset = true; finished = None; request = None }

-- the last SETUP is noted, in place of one that nobody has taken; where there is none, the packet that waits is loaded
abbrev pub with_request : Port → Option (List ℕ) → Port
with_request p None = record p { bus = record p.bus { side = loaded p.bus.side } }
with_request p (Some bytes) = record p { bus = record p.bus { unserved = []; side = Off }; heard = true; next_address = None; request = Some bytes }

-- the device has the new address once the host acknowledged the packet of the status stage (9.4.6)
abbrev pub address_after : Option ℕ → Stage → Option ℕ
address_after next Sent = next
address_after next (Came bytes) = None

abbrev pub with_stage : Port → Stage → Port
with_stage p stage = record p { bus = record p.bus { side = Off }; finished = Some stage }

abbrev pub with_address : Port → Option ℕ → Port
with_address p None = with_request p (last_of p.bus.unserved)
with_address p (Some address) = record p { bus = record p.bus { address = address }; next_address = None }

-- a stage that finished is noted. Where it brings a new address, nothing else is served
abbrev pub with_stages : Port → Option Stage → Port
with_stages p None = with_request p (last_of p.bus.unserved)
with_stages p (Some stage) = with_address (with_stage p stage) (address_after p.next_address stage)

-- the address that a run sets
abbrev pub address_set : Option ℕ → Option Stage → Option ℕ
address_set next None = None
address_set next (Some stage) = address_after next stage

-- a run that sets one leaves the other endpoints as they are
abbrev pub pipes_served : Option ℕ → Pipes → Pipes
pipes_served None pipes = pipes_after_irq pipes
pipes_served (Some address) pipes = pipes

abbrev pub after_plain_run : Port → Port
after_plain_run p =
    record (with_stages p (finished_stage p.bus.side)) { pipes = pipes_served (address_set p.next_address (finished_stage p.bus.side)) p.pipes }

abbrev pub after_handler : Port → Port
after_handler p = if p.bus.reset then port_reset else after_plain_run p

-- Each call. Endpoint 0 is given something to do only where nothing is on its way.

abbrev pub may_start : Side → Bool
may_start Off = true
may_start (Wait packet last) = true
may_start Stall = true
may_start (Loaded packet) = false
may_start (Last packet) = false
may_start Armed = false
may_start (Finished stage) = false

-- the address that was to come belongs to the transfer before
abbrev pub with_side : Port → Side → Port
with_side p side = record p { bus = record p.bus { side = side }; next_address = None }

abbrev pub started : Port → List ℕ → Bool → Port
started p packet last = with_side p (Wait packet last)

abbrev pub armed : Port → Port
armed p = with_side p Armed

abbrev pub stalled : Port → Port
stalled p = with_side p Stall

abbrev pub addressed : Port → ℕ → Port
addressed p address = record p { next_address = Some address }

-- Each call on the other endpoints.

abbrev pub with_pipes : Port → Pipes → Port
with_pipes p pipes = record p { pipes = pipes }

abbrev pub with_endpoint : Port → Endpoint → Port
with_endpoint p e = with_pipes p (with_endpoint_open p.pipes e)

abbrev pub without_endpoints : Port → Port
without_endpoints p = with_pipes p (pipes_closed p.pipes)

abbrev pub halted_at : Port → ℕ → Port
halted_at p address = with_pipes p (with_halt p.pipes address)

abbrev pub cleared_at : Port → ℕ → Port
cleared_at p address = with_pipes p (without_halt p.pipes address)

-- Each call of a class on its pipe, by the number of its endpoint.

abbrev pub with_out_pipe : Port → ℕ → OutPipe → Port
with_out_pipe p n pipe = with_pipes p (with_out_slot p.pipes n (record (out_slot p.pipes n) { pipe = pipe }))

abbrev pub with_in_pipe : Port → ℕ → InPipe → Port
with_in_pipe p n pipe = with_pipes p (with_in_slot p.pipes n (record (in_slot p.pipes n) { pipe = pipe }))

abbrev pub armed_at : Port → ℕ → Port
armed_at p n = with_out_pipe p n (out.armed (out_slot p.pipes n).pipe)

-- so many bytes are read
abbrev pub read_at : Port → ℕ → ℕ → Port
read_at p n count = with_out_pipe p n (out.taken count (out_slot p.pipes n).pipe)

abbrev pub started_at : Port → ℕ → Port
started_at p n = with_in_pipe p n (inward.started (in_slot p.pipes n).endpoint.size (in_slot p.pipes n).pipe)

-- as many of the bytes are queued as a queue of this capacity has room for
abbrev pub written_at : Port → ℕ → ℕ → List ℕ → Port
written_at p n capacity bytes = with_in_pipe p n (inward.written capacity bytes (in_slot p.pipes n).pipe)

-- what the pipe at an address holds is dropped
abbrev pub out_dropped : OutSlot → OutSlot
out_dropped slot = record slot { pipe = out.dropped slot.pipe }

abbrev pub in_dropped : InSlot → InSlot
in_dropped slot = record slot { pipe = inward.dropped slot.pipe }

abbrev pub dropped_at : Port → ℕ → Port
dropped_at p address = with_pipes p (changed_at out_dropped in_dropped p.pipes address)

-- a task takes the note of one pipe
abbrev pub noted_out : Port → ℕ → Port
noted_out p n = with_pipes p (with_out_slot p.pipes n (out_slot_after_task (out_slot p.pipes n)))

abbrev pub noted_in : Port → ℕ → Port
noted_in p n = with_pipes p (with_in_slot p.pipes n (in_slot_after_task (in_slot p.pipes n)))

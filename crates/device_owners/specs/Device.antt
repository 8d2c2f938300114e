-- A device with its classes: the core, with endpoint 0 and all pipes, and the state of each class (USB 2.0, 8.5.3, 9.1 and 9.4).
-- Each step is written once, for the owners that a machine knows. The whole device knows all. The machine of one owner knows that
-- one and the core: it has their endpoints alone, and of a control transfer of another class only that one stands.
use Rattle.std.specs.Prelude.{ℕ, zero, suc, ◌-◌, List, [], ◌∷◌, Bool, true, false, ◌&&◌, nat_lt, filter, Option, Some, None, if◌then◌else◌}
use Rattle.usb_packet.specs.declared.bus.Owner as declared
use Rattle.usb_packet.specs.declared.bus.BusEvent.{BusEvent}
use Rattle.usb_packet.specs.declared.bus.Toggle.TheVariants.{D1}
use Rattle.usb_packet.specs.declared.setup.Setup.{Setup}
use Rattle.usb_packet.specs.Setup.{fields_of}
use Rattle.usb_pipe.specs.declared.decision.Decision.{Decision}
use Rattle.usb_pipe.specs.declared.decision.Decision.TheVariants as decision
use Rattle.usb_descriptor.specs.declared.endpoint.Endpoint.{Endpoint}
use Rattle.usb_descriptor.specs.Set.{Set, endpoints_of, has_endpoint}
use Rattle.usb_control.specs.declared.state.CoreState.{CoreState}
use Rattle.usb_control.specs.declared.state.Effect.{Effect}
use Rattle.usb_control.specs.declared.state.Effect.TheVariants as effect
use Rattle.usb_control.specs.declared.state.Choice.{Choice}
use Rattle.usb_control.specs.declared.state.Choice.TheVariants.{Own, Class}
use Rattle.usb_control.specs.Table.{choice, owner_of}
use Rattle.device_pipe.specs.OutPipe as out
use Rattle.device_pipe.specs.InPipe as inward
use Rattle.device_machine.specs.declared.control.Stage.{Stage}
use Rattle.device_machine.specs.declared.control.Stage.TheVariants.{Sent, Came}
use Rattle.device_machine.specs.declared.control.Side.{Side}
use Rattle.device_machine.specs.declared.control.Side.TheVariants.{Off, Wait, Armed, Stall}
use Rattle.device_machine.specs.Bus.{Bus, unconfigured, is_empty, last_of, bus_after, pipes_after, finished_stage, without_stage, loaded}
use Rattle.device_machine.specs.Pipes.{Pipes, OutSlot, InSlot, pipes_unopened, pipes_after_irq, pipes_after_task, session_pipes, with_halt, without_halt, without_halts, halted_addresses, is_open_at, out_slot, in_slot}
use Rattle.device_machine.specs.Packets.{data_packets}
use Rattle.device_machine.specs.Session.{opened}
use Rattle.usb_pipe.specs.Rules.{Rules}
use Rattle.usb_pipe.specs.Classes as all
use Rattle.device_owners.specs.Calls.{Calls}
use Rattle.usb_pipe.specs.Classes.{Classes, class_at, with_class, class_owners}
use Rattle.device_owners.specs.Ends.{pipe_of, own_pipes, with_own}

-- the control transfer that runs
pub data Transfer : Type 0 where
  Idle : Transfer
  -- a data stage for the host, with the packets that follow the one under way
  Sending : (packets : List (List ℕ)) → Transfer
  -- a data stage from the host, for the class that took the request
  Taking : (owner : declared.Owner) → (setup : Setup) → Transfer
  -- a status stage for the host, and that of SET_ADDRESS, with the address
  Ending : Transfer
  Addressing : (address : ℕ) → Transfer
  -- one of a class that this machine doesn't know. The whole device has none
  Foreign : Transfer

pub record Core : Type 0 where
  pub bus : Bus
  -- the endpoints other than 0
  pub pipes : Pipes
  -- a session stands: the device is configured (9.4.7)
  pub session : Bool
  -- the note of a stage that finished, which no task has taken
  pub finished : Option Stage
  -- the note of a SETUP that no task has taken
  pub request : Option (List ℕ)
  pub transfer : Transfer

pub record Device (S : Type 0) : Type 0 where
  pub core : Core
  pub classes : Classes S

-- What a device is made with: its descriptors, what each owner's class does, and what each class holds at the start.
pub record World (S : Type 0) : Type 0 where
  pub set : Set
  pub rules : declared.Owner → Rules S
  pub calls : declared.Owner → Calls S
  pub first : Classes S

-- a machine of that world, which knows some of the owners
pub record Machinery (S : Type 0) : Type 0 where
  pub world : World S
  pub knows : declared.Owner → Bool

-- a device at address 0 whose endpoint 0 is empty and whose other endpoints are closed, with no session and no notes
abbrev pub emptied : Bool → Core
emptied awake = record { bus = unconfigured awake; pipes = pipes_unopened; session = false; finished = None; request = None; transfer = Idle }

-- the device at the start
abbrev pub start : {S : Type 0} → World S → Device S
start world = record { core = emptied false; classes = world.first }

-- the class of an owner, where the machine knows it and it is one, after something
abbrev pub told : {S : Type 0} → Machinery S → declared.Owner → (Rules S → S → S) → Classes S → Classes S
told m o f classes = if m.knows o then all.told m.world.rules o f classes else classes

abbrev pub told_each : {S : Type 0} → Machinery S → List declared.Owner → (Rules S → S → S) → Classes S → Classes S
told_each m [] f classes = classes
told_each m (o ∷ os) f classes = told_each m os f (told m o f classes)

-- what requests are decided by, and `state` tells
abbrev pub core_state : Core → CoreState
core_state core = record { addr = core.bus.address; configured = core.session; halted = record { items = halted_addresses core.pipes } }

-- On the bus, and at a handler run.

-- a bus event changes endpoint 0 and the pipes alone
abbrev pub core_after_bus : Core → BusEvent → Core
core_after_bus core e = record core { bus = bus_after core.bus e; pipes = pipes_after core.bus core.pipes e }

abbrev pub after_bus : {S : Type 0} → Device S → BusEvent → Device S
after_bus d e = record d { core = core_after_bus d.core e }

-- a handler run notes a stage that finished
abbrev pub with_stage : Core → Option Stage → Core
with_stage core None = core
with_stage core (Some stage) = record core { bus = record core.bus { side = without_stage core.bus.side }; finished = Some stage }

-- and then serves the SETUPs: the last one is noted, in place of one that no task has taken, and ends what
-- endpoint 0 did. Where there is none, the packet that waits is loaded.
abbrev pub with_request : Core → Option (List ℕ) → Core
with_request core None = record core { bus = record core.bus { side = loaded core.bus.side } }
with_request core (Some bytes) = record core { bus = record core.bus { unserved = []; side = Off }; request = Some bytes }

abbrev pub with_pipes_served : Core → Core
with_pipes_served core = record core { pipes = pipes_after_irq core.pipes }

abbrev pub after_plain_irq : Core → Core
after_plain_irq core = with_pipes_served (with_request (with_stage core (finished_stage core.bus.side)) (last_of core.bus.unserved))

-- the address that a handler run sets: where it finds the status stage of SET_ADDRESS finished (9.4.6)
abbrev pub new_address : Transfer → Option Stage → Option ℕ
new_address (Addressing n) (Some stage) = Some n
new_address (Addressing n) None = None
new_address Idle stage = None
new_address (Sending packets) stage = None
new_address (Taking o setup) stage = None
new_address Ending stage = None
new_address Foreign stage = None

abbrev pub with_address : Core → ℕ → Core
with_address core n = record core { bus = record core.bus { address = n } }

-- such a run notes that stage and does nothing else: the pipes stay as they are
abbrev pub after_stages : Core → Option ℕ → Core
after_stages core None = after_plain_irq core
after_stages core (Some n) = with_address (with_stage core (finished_stage core.bus.side)) n

abbrev pub core_after_irq : Core → Core
core_after_irq core = if core.bus.reset then emptied true else after_stages core (new_address core.transfer (finished_stage core.bus.side))

-- the classes learn of the end of a session, where one stood
abbrev pub classes_closed : {S : Type 0} → Machinery S → Bool → Classes S → Classes S
classes_closed m session classes = if session then told_each m class_owners (λ r s. r.after_closed s) classes else classes

-- a handler run. One that finds a reset ends the session, empties everything and does nothing else
abbrev pub after_irq : {S : Type 0} → Machinery S → Device S → Device S
after_irq m d = record {
  core = core_after_irq d.core;
  classes = classes_closed m (d.core.bus.reset && d.core.session) d.classes;
}

-- Endpoint 0 at a task run.

-- endpoint 0 with this ready, and this transfer running
abbrev pub with_side : Core → Side → Transfer → Core
with_side core side transfer = record core { bus = record core.bus { side = side }; transfer = transfer }

-- a data stage of these packets begins or goes on
abbrev pub sending : Core → List (List ℕ) → Core
sending core [] = with_side core core.bus.side Idle
sending core (packet ∷ packets) = with_side core (Wait packet (is_empty packets)) (Sending packets)

-- the status stage for the host
abbrev pub acknowledged : Core → Core
acknowledged core = with_side core (Wait [] false) Ending

-- a request is refused (9.2.7)
abbrev pub refused : Core → Core
refused core = with_side core Stall Idle

-- after data from the host: the status stage where the class takes it, else a refusal
abbrev pub answered : Core → Bool → Core
answered core taken = if taken then acknowledged core else refused core

-- a task goes on after a packet for the host that was acknowledged: with the next packet of data, or with nothing
abbrev pub sent_on : Core → Transfer → Core
sent_on core (Sending packets) = sending core packets
sent_on core (Taking o setup) = record core { transfer = Idle }
sent_on core Ending = record core { transfer = Idle }
sent_on core (Addressing n) = record core { transfer = Idle }
sent_on core Idle = core
sent_on core Foreign = core

-- and after a packet that came: where it is the data of a request, with the status stage or a refusal, and else with nothing
abbrev pub came_on : {S : Type 0} → Machinery S → Device S → Transfer → List ℕ → Device S
came_on m d (Taking o setup) bytes = record {
  core = answered d.core ((m.world.rules o).accepts (class_at d.classes o) setup bytes);
  classes = told m o (λ r s. r.after_data s setup bytes) d.classes;
}
came_on m d (Sending packets) bytes = record d { core = record d.core { transfer = Idle } }
came_on m d Ending bytes = record d { core = record d.core { transfer = Idle } }
came_on m d (Addressing n) bytes = record d { core = record d.core { transfer = Idle } }
came_on m d Idle bytes = d
came_on m d Foreign bytes = d

abbrev pub advanced : {S : Type 0} → Machinery S → Device S → Transfer → Stage → Device S
advanced m d t Sent = record d { core = sent_on d.core t }
advanced m d t (Came bytes) = came_on m d t bytes

-- the first stage of a request with data for the host. Data of which the host allows no byte has no data stage
-- (9.3.5), so its status stage follows
abbrev pub with_data : Core → List ℕ → ℕ → Core
with_data core bytes zero = acknowledged core
with_data core bytes (suc n) = sending core (data_packets bytes (suc n))

-- the status stage of a request of the core without data
abbrev pub ending : Effect → Transfer
ending (effect.Address n) = Addressing n
ending effect.None = Ending
ending (effect.Configure begins) = Ending
ending (effect.Halt a) = Ending
ending (effect.Clear a) = Ending
ending (effect.ClearInterface n) = Ending

-- the first stage of a request that the core decides. None of these takes data from the host
abbrev pub staged : Core → Decision → Effect → ℕ → Core
staged core (decision.Data bytes) e allowed = with_data core bytes.items allowed
staged core (decision.Take n) e allowed = refused core
staged core decision.Status e allowed = with_side core (Wait [] false) (ending e)
staged core decision.Stall e allowed = refused core

-- and of one that a class decides
abbrev pub class_staged : Core → declared.Owner → Setup → Decision → Core
class_staged core o setup (decision.Data bytes) = with_data core bytes.items setup.length
class_staged core o setup (decision.Take n) = with_side core Armed (Taking o setup)
class_staged core o setup decision.Status = acknowledged core
class_staged core o setup decision.Stall = refused core

-- SET_CONFIGURATION ends the session, and a new one begins where it says so (9.4.7), with the endpoints that this machine knows
abbrev pub known_endpoints : {S : Type 0} → Machinery S → Bool → List Endpoint
known_endpoints m begins = filter (λ e. m.knows e.owner) (opened m.world.set begins)

abbrev pub classes_opened : {S : Type 0} → Machinery S → Bool → Classes S → Classes S
classes_opened m begins classes = if begins then told_each m class_owners (λ r s. r.after_opened s) classes else classes

abbrev pub configured : {S : Type 0} → Machinery S → Device S → Bool → Device S
configured m d begins = record {
  core = record d.core { pipes = session_pipes (known_endpoints m begins) d.core.pipes; session = begins };
  classes = classes_opened m begins (classes_closed m d.core.session d.classes);
}

abbrev pub with_pipes : {S : Type 0} → Device S → Pipes → Device S
with_pipes d pipes = record d { core = record d.core { pipes = pipes } }

-- the class of an endpoint learns that its pipe was cleared, where it is open
abbrev pub endpoint_in : Pipes → ℕ → Endpoint
endpoint_in pipes a = if nat_lt a 128 then (out_slot pipes a).endpoint else (in_slot pipes (a - 128)).endpoint

abbrev pub told_cleared : {S : Type 0} → Machinery S → Pipes → ℕ → Classes S → Classes S
told_cleared m pipes a classes =
    if is_open_at pipes a
    then told m (endpoint_in pipes a).owner (λ r s. r.after_cleared s (pipe_of (endpoint_in pipes a))) classes
    else classes

abbrev pub told_cleared_each : {S : Type 0} → Machinery S → Pipes → (ℕ → Bool) → List Endpoint → Classes S → Classes S
told_cleared_each m pipes named [] classes = classes
told_cleared_each m pipes named (e ∷ es) classes =
    told_cleared_each m pipes named es (if named e.addr then told_cleared m pipes e.addr classes else classes)

-- what a request of the core changes in the task that takes it. A new address waits for the end of the status stage
abbrev pub changed : {S : Type 0} → Machinery S → Device S → Effect → Device S
changed m d effect.None = d
changed m d (effect.Address n) = d
changed m d (effect.Configure begins) = configured m d begins
changed m d (effect.Halt a) = with_pipes d (with_halt d.core.pipes a)
changed m d (effect.Clear a) = record {
  core = record d.core { pipes = without_halt d.core.pipes a };
  classes = told_cleared m d.core.pipes a d.classes;
}
changed m d (effect.ClearInterface n) = record {
  core = record d.core { pipes = without_halts (has_endpoint m.world.set.config n) d.core.pipes (endpoints_of m.world.set.config) };
  classes = told_cleared_each m d.core.pipes (has_endpoint m.world.set.config n) (endpoints_of m.world.set.config) d.classes;
}

-- a task begins the transfer of a request
abbrev pub begun : {S : Type 0} → Machinery S → Device S → Setup → Choice → Device S
begun m d setup (Own decision e) = changed m (record d { core = staged d.core decision e setup.length }) e
begun m d setup (Class o) = record {
  core = class_staged d.core o setup ((m.world.rules o).decides (class_at d.classes o) setup);
  classes = told m o (λ r s. r.after_setup s setup) d.classes;
}

-- of one that another class decides only that its transfer stands is kept. Nothing is ready, and what a SETUP leaves is left (8.5.3)
abbrev pub foreign : Core → Core
foreign core = record core { bus = record core.bus { side = Off; taken = false; toggle = D1 }; transfer = Foreign }

abbrev pub taken_up : {S : Type 0} → Machinery S → Device S → Setup → Device S
taken_up m d setup =
    if m.knows (owner_of m.world.set setup)
    then begun m d setup (choice m.world.set (core_state d.core) setup)
    else record d { core = foreign d.core }

-- the stage note is taken and worked
abbrev pub work_stage : {S : Type 0} → Machinery S → Device S → Option Stage → Device S
work_stage m d None = d
work_stage m d (Some stage) = advanced m (record d { core = record d.core { finished = None } }) d.core.transfer stage

-- and then the SETUP note
abbrev pub work_request : {S : Type 0} → Machinery S → Device S → Option (List ℕ) → Device S
work_request m d None = d
work_request m d (Some bytes) = taken_up m (record d { core = record d.core { request = None } }) (fields_of bytes)

abbrev pub with_request_worked : {S : Type 0} → Machinery S → Device S → Device S
with_request_worked m d = work_request m d d.core.request

abbrev pub with_control_worked : {S : Type 0} → Machinery S → Device S → Device S
with_control_worked m d = with_request_worked m (work_stage m d d.core.finished)

-- The pipes at a task run: their notes are taken, of OUT pipes by number and then of IN pipes by number, and the classes learn of them.

abbrev pub told_came : {S : Type 0} → Machinery S → OutSlot → Classes S → Classes S
told_came m slot classes =
    if out.came slot.pipe then told m slot.endpoint.owner (λ r s. r.after_came s (pipe_of slot.endpoint)) classes else classes

abbrev pub told_came_each : {S : Type 0} → Machinery S → List OutSlot → Classes S → Classes S
told_came_each m [] classes = classes
told_came_each m (slot ∷ slots) classes = told_came_each m slots (told_came m slot classes)

abbrev pub told_ended_of : {S : Type 0} → Machinery S → Endpoint → Option ℕ → Classes S → Classes S
told_ended_of m e None classes = classes
told_ended_of m e (Some n) classes = told m e.owner (λ r s. r.after_ended s (pipe_of e) n) classes

abbrev pub told_ended_each : {S : Type 0} → Machinery S → List InSlot → Classes S → Classes S
told_ended_each m [] classes = classes
told_ended_each m (slot ∷ slots) classes =
    told_ended_each m slots (told_ended_of m slot.endpoint (inward.ended slot.pipe) classes)

abbrev pub with_notes_taken : {S : Type 0} → Machinery S → Device S → Device S
with_notes_taken m d = record {
  core = record d.core { pipes = pipes_after_task d.core.pipes };
  classes = told_ended_each m d.core.pipes.ins (told_came_each m d.core.pipes.outs d.classes);
}

-- And then the classes work, in their order.

abbrev pub worked : {S : Type 0} → Machinery S → declared.Owner → Device S → Device S
worked m o d = record {
  core = record d.core { pipes = with_own m.world.set o d.core.pipes ((m.world.rules o).pipes_after_work (class_at d.classes o) (own_pipes m.world.set o d.core.pipes)) };
  classes = with_class d.classes o ((m.world.rules o).after_work (class_at d.classes o) (own_pipes m.world.set o d.core.pipes));
}

abbrev pub worked_if : {S : Type 0} → Machinery S → declared.Owner → Device S → Device S
worked_if m o d = if m.knows o then worked m o d else d

abbrev pub worked_each : {S : Type 0} → Machinery S → List declared.Owner → Device S → Device S
worked_each m [] d = d
worked_each m (o ∷ os) d = worked_each m os (worked_if m o d)

abbrev pub after_task : {S : Type 0} → Machinery S → Device S → Device S
after_task m d = worked_each m class_owners (with_notes_taken m (with_control_worked m d))

-- The endpoints that are open are the session's after each step.
use Rattle.std.proofs.Common.{ℕ, zero, suc, List, [], ◌∷◌, Bool, true, false, if◌then◌else◌, Option, Some, None, sym, subst}
use Rattle.usb_packet.specs.declared.bus.Owner.{Owner}
use Rattle.usb_packet.specs.declared.bus.BusEvent.{BusEvent}
use Rattle.usb_packet.specs.declared.setup.Setup.{Setup}
use Rattle.usb_packet.specs.Setup.{fields_of}
use Rattle.usb_pipe.specs.declared.decision.Decision.{Decision}
use Rattle.usb_pipe.specs.declared.decision.Decision.TheVariants as decision
use Rattle.usb_pipe.specs.Rules.{Rules}
use Rattle.usb_pipe.specs.Classes.{Classes, class_at}
use Rattle.usb_control.specs.declared.state.Effect.{Effect}
use Rattle.usb_control.specs.declared.state.Effect.TheVariants as effect
use Rattle.usb_control.specs.declared.state.Choice.{Choice}
use Rattle.usb_control.specs.declared.state.Choice.TheVariants.{Own, Class}
use Rattle.usb_control.specs.Table.{choice}
use Rattle.usb_descriptor.specs.Set.{Set, endpoints_of, has_endpoint}
use Rattle.device_machine.specs.declared.control.Stage.{Stage}
use Rattle.device_machine.specs.declared.control.Stage.TheVariants.{Sent, Came}
use Rattle.device_machine.specs.Bus.{finished_stage, last_of, pipes_after}
use Rattle.device_machine.specs.Pipes.{pipes_after_irq, pipes_after_task, session_pipes, with_halt, without_halt, without_halts}
use Rattle.device_machine.specs.Packets.{data_packets}
use Rattle.device_machine.specs.Session.{opened}
use Rattle.device_machine.specs.Laws.{AreOf}
use Rattle.device_machine.proofs.Opens.{unopened_of, session_of}
use Rattle.device_machine.proofs.Slots.{opened_of, irq_keeps, task_keeps, bus_keeps, halt_keeps, clear_keeps, clears_keep}
use Rattle.device_owners.specs.Device.{Core, Machinery, Transfer, Idle, Sending, Taking, Ending, Addressing, Foreign, emptied, core_state, core_after_bus, core_after_irq, after_stages, new_address, with_stage, with_request, sending, sent_on, answered, came_on, with_data, staged, class_staged, changed, begun, work_stage, work_request, with_control_worked, with_notes_taken}
use Rattle.device_owners.specs.Device.{Device as Whole}
use Rattle.usbd_core.specs.Device.{machinery}
use Rattle.usbd_core.proofs.Steps.{keep_of}
use Rattle.usbd_core.proofs.Opens.{all_known}

abbrev pub IsOpen : Set → Core → Type 0
IsOpen set core = AreOf (opened set core.session) core.pipes

pub after_bus_open : (set : Set) (core : Core) (e : BusEvent) → IsOpen set core → IsOpen set (core_after_bus core e)
after_bus_open set core e h = keep_of (opened set core.session) (pipes_after core.bus core.pipes e) core.pipes (opened_of (pipes_after core.bus core.pipes e) core.pipes (bus_keeps core.bus core.pipes e)) h

stage_open : (set : Set) (core : Core) (stage : Option Stage) → IsOpen set core → IsOpen set (with_stage core stage)
stage_open set core None h = h
stage_open set core (Some stage) h = h

request_open : (set : Set) (core : Core) (bytes : Option (List ℕ)) → IsOpen set core → IsOpen set (with_request core bytes)
request_open set core None h = h
request_open set core (Some bytes) h = h

stages_open : (set : Set) (core : Core) (address : Option ℕ) → IsOpen set core → IsOpen set (after_stages core address)
stages_open set core None h =
    let served = with_request (with_stage core (finished_stage core.bus.side)) (last_of core.bus.unserved) in
    keep_of (opened set served.session) (pipes_after_irq served.pipes) served.pipes (opened_of (pipes_after_irq served.pipes) served.pipes (irq_keeps served.pipes))
    (request_open set (with_stage core (finished_stage core.bus.side)) (last_of core.bus.unserved) (stage_open set core (finished_stage core.bus.side) h))
stages_open set core (Some n) h = stage_open set core (finished_stage core.bus.side) h

choose_open : (set : Set) (b : Bool) (x y : Core) → IsOpen set x → IsOpen set y → IsOpen set (if b then x else y)
choose_open set true x y hx hy = hx
choose_open set false x y hx hy = hy

pub after_irq_open : (set : Set) (core : Core) → IsOpen set core → IsOpen set (core_after_irq core)
after_irq_open set core h =
    choose_open set core.bus.reset (emptied true) (after_stages core (new_address core.transfer (finished_stage core.bus.side))) unopened_of
    (stages_open set core (new_address core.transfer (finished_stage core.bus.side)) h)

sending_open : (set : Set) (core : Core) (packets : List (List ℕ)) → IsOpen set core → IsOpen set (sending core packets)
sending_open set core [] h = h
sending_open set core (packet ∷ packets) h = h

sent_open : (set : Set) (core : Core) (t : Transfer) → IsOpen set core → IsOpen set (sent_on core t)
sent_open set core (Sending packets) h = sending_open set core packets h
sent_open set core (Taking o setup) h = h
sent_open set core Ending h = h
sent_open set core (Addressing n) h = h
sent_open set core Idle h = h
sent_open set core Foreign h = h

answered_open : (set : Set) (core : Core) (taken : Bool) → IsOpen set core → IsOpen set (answered core taken)
answered_open set core true h = h
answered_open set core false h = h

came_open : {S : Type 0} (m : Machinery S) (set : Set) (d : Whole S) (t : Transfer) (bytes : List ℕ) → IsOpen set d.core → IsOpen set (came_on m d t bytes).core
came_open m set d (Taking o setup) bytes h = answered_open set d.core ((m.world.rules o).accepts (class_at d.classes o) setup bytes) h
came_open m set d (Sending packets) bytes h = h
came_open m set d Ending bytes h = h
came_open m set d (Addressing n) bytes h = h
came_open m set d Idle bytes h = h
came_open m set d Foreign bytes h = h

worked_stage_open : {S : Type 0} (m : Machinery S) (set : Set) (d : Whole S) (stage : Option Stage) → IsOpen set d.core → IsOpen set (work_stage m d stage).core
worked_stage_open m set d None h = h
worked_stage_open m set d (Some Sent) h = sent_open set (record d.core { finished = None }) d.core.transfer h
worked_stage_open m set d (Some (Came bytes)) h = came_open m set (record d { core = record d.core { finished = None } }) d.core.transfer bytes h

data_open : (set : Set) (core : Core) (bytes : List ℕ) (allowed : ℕ) → IsOpen set core → IsOpen set (with_data core bytes allowed)
data_open set core bytes zero h = h
data_open set core bytes (suc n) h = sending_open set core (data_packets bytes (suc n)) h

staged_open : (set : Set) (core : Core) (d : Decision) (e : Effect) (allowed : ℕ) → IsOpen set core → IsOpen set (staged core d e allowed)
staged_open set core (decision.Data bytes) e allowed h = data_open set core bytes.items allowed h
staged_open set core (decision.Take n) e allowed h = h
staged_open set core decision.Status e allowed h = h
staged_open set core decision.Stall e allowed h = h

class_open : (set : Set) (core : Core) (o : Owner) (setup : Setup) (d : Decision) → IsOpen set core → IsOpen set (class_staged core o setup d)
class_open set core o setup (decision.Data bytes) h = data_open set core bytes.items setup.length h
class_open set core o setup (decision.Take n) h = h
class_open set core o setup decision.Status h = h
class_open set core o setup decision.Stall h = h

changed_open : {S : Type 0} (rules : Owner → Rules S) (set : Set) (first : Classes S) (d : Whole S) (e : Effect) → IsOpen set d.core → IsOpen set (changed (machinery rules set first) d e).core
changed_open rules set first d effect.None h = h
changed_open rules set first d (effect.Address n) h = h
changed_open rules set first d (effect.Configure begins) h =
    subst (λ es. AreOf (opened set begins) (session_pipes es d.core.pipes)) (sym (all_known (opened set begins))) (session_of (opened set begins) d.core.pipes h.outs_count h.ins_count)
changed_open rules set first d (effect.Halt a) h = keep_of (opened set d.core.session) (with_halt d.core.pipes a) d.core.pipes (halt_keeps d.core.pipes a) h
changed_open rules set first d (effect.Clear a) h = keep_of (opened set d.core.session) (without_halt d.core.pipes a) d.core.pipes (clear_keeps d.core.pipes a) h
changed_open rules set first d (effect.ClearInterface n) h =
    keep_of (opened set d.core.session) (without_halts (has_endpoint set.config n) d.core.pipes (endpoints_of set.config)) d.core.pipes (clears_keep (has_endpoint set.config n) d.core.pipes (endpoints_of set.config)) h

begun_open : {S : Type 0} (rules : Owner → Rules S) (set : Set) (first : Classes S) (d : Whole S) (setup : Setup) (c : Choice) → IsOpen set d.core → IsOpen set (begun (machinery rules set first) d setup c).core
begun_open rules set first d setup (Own decision e) h =
    changed_open rules set first (record d { core = staged d.core decision e setup.length }) e (staged_open set d.core decision e setup.length h)
begun_open rules set first d setup (Class o) h = class_open set d.core o setup ((rules o).decides (class_at d.classes o) setup) h

worked_request_open : {S : Type 0} (rules : Owner → Rules S) (set : Set) (first : Classes S) (d : Whole S) (request : Option (List ℕ)) → IsOpen set d.core
    → IsOpen set (work_request (machinery rules set first) d request).core
worked_request_open rules set first d None h = h
worked_request_open rules set first d (Some bytes) h =
    begun_open rules set first (record d { core = record d.core { request = None } }) (fields_of bytes) (choice set (core_state d.core) (fields_of bytes)) h

-- endpoint 0 is worked, and then the notes of the pipes are taken
pub control_open : {S : Type 0} (rules : Owner → Rules S) (set : Set) (first : Classes S) (d : Whole S) → IsOpen set d.core
    → IsOpen set (with_notes_taken (machinery rules set first) (with_control_worked (machinery rules set first) d)).core
control_open rules set first d h =
    let m = machinery rules set first in
    let staged = work_stage m d d.core.finished in
    let worked = with_control_worked m d in
    keep_of (opened set worked.core.session) (pipes_after_task worked.core.pipes) worked.core.pipes (opened_of (pipes_after_task worked.core.pipes) worked.core.pipes (task_keeps worked.core.pipes))
    (worked_request_open rules set first staged staged.core.request (worked_stage_open m set d d.core.finished h))

-- The open endpoints and the session stay together.
use Rattle.std.proofs.Common.{◌≡◌, ℕ, zero, suc, List, [], ◌∷◌, Bool, true, false, not, if◌then◌else◌, Option, Some, None, ap, sym, ◌∙◌}
use Rattle.usb_packet.specs.declared.bus.BusEvent.{BusEvent}
use Rattle.usb_packet.specs.declared.bus.Owner.{Owner}
use Rattle.usb_packet.specs.declared.setup.Setup.{Setup}
use Rattle.usb_packet.specs.Setup.{fields_of}
use Rattle.usb_pipe.specs.declared.decision.Decision.{Decision}
use Rattle.usb_pipe.specs.declared.decision.Decision.TheVariants as decision
use Rattle.usb_pipe.specs.Own.{Own}
use Rattle.usb_pipe.specs.Classes.{class_at, class_owners}
use Rattle.usb_descriptor.specs.declared.endpoint.Endpoint.{Endpoint}
use Rattle.usb_descriptor.specs.Set.{Set, is_core, endpoints_of, has_endpoint}
use Rattle.usb_control.specs.declared.state.Effect.{Effect}
use Rattle.usb_control.specs.declared.state.Effect.TheVariants as effect
use Rattle.usb_control.specs.declared.state.Choice.{Choice}
use Rattle.usb_control.specs.declared.state.Choice.TheVariants.{Own as OfCore, Class}
use Rattle.usb_control.specs.Table.{choice, owner_of}
use Rattle.device_line.specs.declared.call.DevCall.{DevCall}
use Rattle.device_machine.specs.declared.control.Stage.{Stage}
use Rattle.device_machine.specs.declared.control.Stage.TheVariants.{Sent, Came}
use Rattle.device_machine.specs.Bus.{finished_stage, last_of}
use Rattle.device_machine.specs.Packets.{data_packets}
use Rattle.device_machine.specs.Pipes.{Pipes, OutSlot, InSlot, out_slot, in_slot, with_halt, without_halt, without_halts, pipes_after_irq, pipes_after_task}
use Rattle.device_machine.specs.Laws.{AreOf}
use Rattle.device_machine.proofs.Slots.{Keep, Opened, out_opened, in_opened, out_at, in_at, out_set, in_set, thence, outs_count, ins_count, irq_keeps, task_keeps, bus_keeps, opened_of, halt_keeps, clear_keeps, clears_keep}
use Rattle.device_machine.proofs.Opens.{unopened_of, session_of}
use Rattle.device_owners.specs.Ends.{number_at, own_pipes, with_sends, with_receives, with_own}
use Rattle.device_owners.specs.Device.{Machinery, Device, Core, Transfer, Idle, Sending, Taking, Ending, Addressing, Foreign, emptied, core_state, after_bus, with_stage, with_request, after_stages, new_address, after_irq, sending, answered, advanced, with_data, staged, class_staged, known_endpoints, changed, begun, work_stage, work_request, with_control_worked, with_notes_taken, worked, worked_if, worked_each}
use Rattle.device_owners.specs.Lines.{after_class_call}
use Rattle.device_owners.specs.Steps.{IsOpen, StayOpen, OpenNone, StaysOpen}

keep_of : (endpoints : List Endpoint) (new old : Pipes) → Keep out_opened in_opened new old → AreOf endpoints old → AreOf endpoints new
keep_of endpoints new old k h = record {
  outs = λ n few. record {
    endpoint = ap (λ (s : Opened). s.endpoint) (out_at out_opened in_opened new old k (suc n)) ∙ (h.outs n few).endpoint;
    opens = ap (λ (s : Opened). s.opens) (out_at out_opened in_opened new old k (suc n)) ∙ (h.outs n few).opens;
  };
  ins = λ n few. record {
    endpoint = ap (λ (s : Opened). s.endpoint) (in_at out_opened in_opened new old k (suc n)) ∙ (h.ins n few).endpoint;
    opens = ap (λ (s : Opened). s.opens) (in_at out_opened in_opened new old k (suc n)) ∙ (h.ins n few).opens;
  };
  outs_count = outs_count out_opened in_opened new old k ∙ h.outs_count;
  ins_count = ins_count out_opened in_opened new old k ∙ h.ins_count;
}

-- what is open of a core
abbrev Opens : {S : Type 0} → Machinery S → Core → Type 0
Opens m core = AreOf (known_endpoints m core.session) core.pipes

-- A bus event and a handler run.

bus_open : {S : Type 0} (m : Machinery S) (d : Device S) (e : BusEvent) → IsOpen m d → IsOpen m (after_bus d e)
bus_open m d e h = keep_of (known_endpoints m d.core.session) (after_bus d e).core.pipes d.core.pipes (opened_of (after_bus d e).core.pipes d.core.pipes (bus_keeps d.core.bus d.core.pipes e)) h

stage_open : {S : Type 0} (m : Machinery S) (core : Core) (stage : Option Stage) → Opens m core → Opens m (with_stage core stage)
stage_open m core None h = h
stage_open m core (Some stage) h = h

request_open : {S : Type 0} (m : Machinery S) (core : Core) (bytes : Option (List ℕ)) → Opens m core → Opens m (with_request core bytes)
request_open m core None h = h
request_open m core (Some bytes) h = h

stages_open : {S : Type 0} (m : Machinery S) (core : Core) (address : Option ℕ) → Opens m core → Opens m (after_stages core address)
stages_open m core None h =
    let served = with_request (with_stage core (finished_stage core.bus.side)) (last_of core.bus.unserved) in
    keep_of (known_endpoints m served.session) (pipes_after_irq served.pipes) served.pipes (opened_of (pipes_after_irq served.pipes) served.pipes (irq_keeps served.pipes))
    (request_open m (with_stage core (finished_stage core.bus.side)) (last_of core.bus.unserved) (stage_open m core (finished_stage core.bus.side) h))
stages_open m core (Some n) h = stage_open m core (finished_stage core.bus.side) h

choose_open : {S : Type 0} (m : Machinery S) (b : Bool) (x y : Core) → Opens m x → Opens m y → Opens m (if b then x else y)
choose_open m true x y hx hy = hx
choose_open m false x y hx hy = hy

irq_open : {S : Type 0} (m : Machinery S) (d : Device S) → IsOpen m d → IsOpen m (after_irq m d)
irq_open m d h =
    choose_open m d.core.bus.reset (emptied true) (after_stages d.core (new_address d.core.transfer (finished_stage d.core.bus.side))) unopened_of
    (stages_open m d.core (new_address d.core.transfer (finished_stage d.core.bus.side)) h)

-- A task, until its classes work.

sending_open : {S : Type 0} (m : Machinery S) (core : Core) (packets : List (List ℕ)) → Opens m core → Opens m (sending core packets)
sending_open m core [] h = h
sending_open m core (packet ∷ packets) h = h

answered_open : {S : Type 0} (m : Machinery S) (core : Core) (taken : Bool) → Opens m core → Opens m (answered core taken)
answered_open m core true h = h
answered_open m core false h = h

advanced_open : {S : Type 0} (m : Machinery S) (d : Device S) (transfer : Transfer) (stage : Stage) → IsOpen m d → IsOpen m (advanced m d transfer stage)
advanced_open m d (Sending packets) Sent h = sending_open m d.core packets h
advanced_open m d (Taking o setup) Sent h = h
advanced_open m d Ending Sent h = h
advanced_open m d (Addressing n) Sent h = h
advanced_open m d Idle Sent h = h
advanced_open m d Foreign Sent h = h
advanced_open m d (Sending packets) (Came bytes) h = h
advanced_open m d (Taking o setup) (Came bytes) h = answered_open m d.core ((m.world.rules o).accepts (class_at d.classes o) setup bytes) h
advanced_open m d Ending (Came bytes) h = h
advanced_open m d (Addressing n) (Came bytes) h = h
advanced_open m d Idle (Came bytes) h = h
advanced_open m d Foreign (Came bytes) h = h

data_open : {S : Type 0} (m : Machinery S) (core : Core) (bytes : List ℕ) (allowed : ℕ) → Opens m core → Opens m (with_data core bytes allowed)
data_open m core bytes zero h = h
data_open m core bytes (suc n) h = sending_open m core (data_packets bytes (suc n)) h

staged_open : {S : Type 0} (m : Machinery S) (core : Core) (d : Decision) (e : Effect) (allowed : ℕ) → Opens m core → Opens m (staged core d e allowed)
staged_open m core (decision.Data bytes) e allowed h = data_open m core bytes.items allowed h
staged_open m core (decision.Take n) e allowed h = h
staged_open m core decision.Status e allowed h = h
staged_open m core decision.Stall e allowed h = h

class_open : {S : Type 0} (m : Machinery S) (core : Core) (o : Owner) (setup : Setup) (d : Decision) → Opens m core → Opens m (class_staged core o setup d)
class_open m core o setup (decision.Data bytes) h = data_open m core bytes.items setup.length h
class_open m core o setup (decision.Take n) h = h
class_open m core o setup decision.Status h = h
class_open m core o setup decision.Stall h = h

changed_open : {S : Type 0} (m : Machinery S) (d : Device S) (e : Effect) → IsOpen m d → IsOpen m (changed m d e)
changed_open m d effect.None h = h
changed_open m d (effect.Address n) h = h
changed_open m d (effect.Configure begins) h = session_of (known_endpoints m begins) d.core.pipes h.outs_count h.ins_count
changed_open m d (effect.Halt a) h = keep_of (known_endpoints m d.core.session) (with_halt d.core.pipes a) d.core.pipes (halt_keeps d.core.pipes a) h
changed_open m d (effect.Clear a) h = keep_of (known_endpoints m d.core.session) (without_halt d.core.pipes a) d.core.pipes (clear_keeps d.core.pipes a) h
changed_open m d (effect.ClearInterface n) h =
    let named = has_endpoint m.world.set.config n in
    let all = endpoints_of m.world.set.config in
    keep_of (known_endpoints m d.core.session) (without_halts named d.core.pipes all) d.core.pipes (clears_keep named d.core.pipes all) h

begun_open : {S : Type 0} (m : Machinery S) (d : Device S) (setup : Setup) (c : Choice) → IsOpen m d → IsOpen m (begun m d setup c)
begun_open m d setup (OfCore decided e) h = changed_open m (record d { core = staged d.core decided e setup.length }) e (staged_open m d.core decided e setup.length h)
begun_open m d setup (Class o) h = class_open m d.core o setup ((m.world.rules o).decides (class_at d.classes o) setup) h

up_open : {S : Type 0} (m : Machinery S) (d : Device S) (setup : Setup) (knows : Bool) (other : Device S) → IsOpen m d → IsOpen m other
    → IsOpen m (if knows then begun m d setup (choice m.world.set (core_state d.core) setup) else other)
up_open m d setup true other h also = begun_open m d setup (choice m.world.set (core_state d.core) setup) h
up_open m d setup false other h also = also

work_stage_open : {S : Type 0} (m : Machinery S) (d : Device S) (stage : Option Stage) → IsOpen m d → IsOpen m (work_stage m d stage)
work_stage_open m d None h = h
work_stage_open m d (Some stage) h = advanced_open m (record d { core = record d.core { finished = None } }) d.core.transfer stage h

work_request_open : {S : Type 0} (m : Machinery S) (d : Device S) (bytes : Option (List ℕ)) → IsOpen m d → IsOpen m (work_request m d bytes)
work_request_open m d None h = h
work_request_open m d (Some bytes) h =
    up_open m (record d { core = record d.core { request = None } }) (fields_of bytes) (m.knows (owner_of m.world.set (fields_of bytes))) _ h h

taken_open : {S : Type 0} (m : Machinery S) (d : Device S) → IsOpen m d → IsOpen m (with_notes_taken m (with_control_worked m d))
taken_open m d h =
    let w = with_control_worked m d in
    keep_of (known_endpoints m w.core.session) (pipes_after_task w.core.pipes) w.core.pipes (opened_of (pipes_after_task w.core.pipes) w.core.pipes (task_keeps w.core.pipes))
    (work_request_open m (work_stage m d d.core.finished) (work_stage m d d.core.finished).core.request (work_stage_open m d d.core.finished h))

-- The work of classes and their calls, which open and close none.

own_keep : (set : Set) (o : Owner) (p : Pipes) (new : Own) → StayOpen (own_pipes set o p) new → Keep out_opened in_opened (with_own set o p new) p
own_keep set o p new h =
    let none = number_at set o 0 in
    let one = number_at set o 1 in
    let two = number_at set o 2 in
    let sent = with_sends p none new.sends in
    let received = with_receives sent one new.receives in
    let a : Keep out_opened in_opened sent p =
    in_set out_opened in_opened p none (record (in_slot p none) { pipe = new.sends.pipe }) (ap (λ b. record { endpoint = (in_slot p none).endpoint; opens = not b }) h.sends) in
    let b : Keep out_opened in_opened received sent =
    out_set out_opened in_opened sent one (record (out_slot sent one) { pipe = new.receives.pipe })
    (ap (λ c. record { endpoint = (out_slot sent one).endpoint; opens = c }) h.receives ∙ out_as (out_slot sent one) (out_slot p one) (out_at out_opened in_opened sent p a one)) in
    let c : Keep out_opened in_opened (with_sends received two new.notifies) received =
    in_set out_opened in_opened received two (record (in_slot received two) { pipe = new.notifies.pipe })
    (ap (λ b. record { endpoint = (in_slot received two).endpoint; opens = not b }) h.notifies
    ∙ in_as (in_slot received two) (in_slot p two) (in_at out_opened in_opened received p (thence out_opened in_opened received sent p b a) two)) in
    thence out_opened in_opened (with_sends received two new.notifies) received p c (thence out_opened in_opened received sent p b a)
  where
    -- a slot that is as open as another, with that one's openness
    out_as : (s t : OutSlot) → out_opened s ≡ out_opened t → record { endpoint = s.endpoint; opens = (out_opened t).opens } ≡ out_opened s
    out_as s t e = ap (λ (x : Opened). record { endpoint = s.endpoint; opens = x.opens }) (sym e)

    in_as : (s t : InSlot) → in_opened s ≡ in_opened t → record { endpoint = s.endpoint; opens = (in_opened t).opens } ≡ in_opened s
    in_as s t e = ap (λ (x : Opened). record { endpoint = s.endpoint; opens = x.opens }) (sym e)

worked_open : {S : Type 0} (m : Machinery S) → OpenNone m.world → (o : Owner) (d : Device S) → IsOpen m d → IsOpen m (worked m o d)
worked_open m none o d h =
    keep_of (known_endpoints m d.core.session) (worked m o d).core.pipes d.core.pipes
    (own_keep m.world.set o d.core.pipes ((m.world.rules o).pipes_after_work (class_at d.classes o) (own_pipes m.world.set o d.core.pipes))
    (none.work o (class_at d.classes o) (own_pipes m.world.set o d.core.pipes))) h

device_open : {S : Type 0} (m : Machinery S) (b : Bool) (x y : Device S) → IsOpen m x → IsOpen m y → IsOpen m (if b then x else y)
device_open m true x y hx hy = hx
device_open m false x y hx hy = hy

each_open : {S : Type 0} (m : Machinery S) → OpenNone m.world → (os : List Owner) (d : Device S) → IsOpen m d → IsOpen m (worked_each m os d)
each_open m none [] d h = h
each_open m none (o ∷ os) d h = each_open m none os (worked_if m o d) (device_open m (m.knows o) (worked m o d) d (worked_open m none o d h) h)

class_call_open : {S : Type 0} (m : Machinery S) → OpenNone m.world → (d : Device S) (o : Owner) (asked : DevCall) → IsOpen m d → IsOpen m (after_class_call m d o asked)
class_call_open m none d o asked h =
    keep_of (known_endpoints m d.core.session) (after_class_call m d o asked).core.pipes d.core.pipes
    (own_keep m.world.set o d.core.pipes ((m.world.calls o).pipes_after_call (class_at d.classes o) (own_pipes m.world.set o d.core.pipes) asked)
    (none.call o (class_at d.classes o) (own_pipes m.world.set o d.core.pipes) asked)) h

pub stays_open : {S : Type 0} (m : Machinery S) → StaysOpen m
stays_open m = record {
  first = unopened_of;
  bus = λ d e h. bus_open m d e h;
  irq = λ d h. irq_open m d h;
  taken = λ d h. taken_open m d h;
  task = λ none d h. each_open m none class_owners (with_notes_taken m (with_control_worked m d)) (taken_open m d h);
  call = λ none d o asked h. device_open m (is_core o) d (after_class_call m d o asked) h (class_call_open m none d o asked h);
}

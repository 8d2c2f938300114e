-- The steps on the bus, at a handler run and at a task run are the same with other calls and other states at the start.
use Rattle.std.proofs.Common.{◌≡◌, ℕ, List, [], ◌∷◌, Bool, Option, Some, None, refl, ap, ◌∙◌}
use Rattle.std.specs.Prelude.{if◌then◌else◌}
use Rattle.usb_packet.specs.declared.bus.Owner.{Owner}
use Rattle.usb_packet.specs.declared.setup.Setup.{Setup}
use Rattle.usb_packet.specs.Setup.{fields_of}
use Rattle.usb_descriptor.specs.declared.endpoint.Endpoint.{Endpoint}
use Rattle.usb_descriptor.specs.Set.{Set, endpoints_of, has_endpoint}
use Rattle.usb_control.specs.declared.state.Effect.{Effect}
use Rattle.usb_control.specs.declared.state.Effect.TheVariants as effect
use Rattle.usb_control.specs.declared.state.Choice.{Choice}
use Rattle.usb_control.specs.declared.state.Choice.TheVariants.{Own, Class}
use Rattle.usb_control.specs.Table.{choice, owner_of}
use Rattle.usb_pipe.specs.Rules.{Rules}
use Rattle.usb_pipe.specs.Classes.{Classes, class_owners}
use Rattle.device_pipe.specs.InPipe as inward
use Rattle.device_machine.specs.declared.control.Stage.{Stage}
use Rattle.device_machine.specs.declared.control.Stage.TheVariants.{Sent, Came}
use Rattle.device_machine.specs.Pipes.{Pipes, OutSlot, InSlot, pipes_after_task, without_halts}
use Rattle.device_owners.specs.Calls.{Calls}
use Rattle.device_owners.specs.Device.{Transfer, Idle, Sending, Taking, Ending, Addressing, Foreign, Device, Machinery, core_state, foreign, staged, told_came, told_came_each, told_ended_of, told_ended_each, told_cleared, told_cleared_each, changed, begun, taken_up, came_on, advanced, work_stage, work_request, with_request_worked, with_control_worked, with_notes_taken, worked_if, worked_each, after_task}
use Rattle.device_line.specs.declared.line.DevLine.TheVariants.{Irq}
use Rattle.device_owners.specs.Lines.{after_line}
use Rattle.device_owners.specs.NoCalls.{AreAlike, StepsAlike}

-- a machinery with other calls, and with other states at the start
abbrev pub with_calls : {S : Type 0} → Machinery S → (Owner → Calls S) → Classes S → Machinery S
with_calls m calls first = record m { world = record m.world { calls = calls; first = first } }

-- What the classes are told, each in turn.

came_each : {S : Type 0} (m : Machinery S) (calls : Owner → Calls S) (first : Classes S) (slots : List OutSlot) (classes : Classes S)
    → told_came_each m slots classes ≡ told_came_each (with_calls m calls first) slots classes
came_each m calls first [] classes = refl
came_each m calls first (slot ∷ slots) classes = came_each m calls first slots (told_came m slot classes)

ended_of : {S : Type 0} (m : Machinery S) (calls : Owner → Calls S) (first : Classes S) (e : Endpoint) (count : Option ℕ) (classes : Classes S)
    → told_ended_of m e count classes ≡ told_ended_of (with_calls m calls first) e count classes
ended_of m calls first e None classes = refl
ended_of m calls first e (Some n) classes = refl

ended_each : {S : Type 0} (m : Machinery S) (calls : Owner → Calls S) (first : Classes S) (slots : List InSlot) (classes : Classes S)
    → told_ended_each m slots classes ≡ told_ended_each (with_calls m calls first) slots classes
ended_each m calls first [] classes = refl
ended_each m calls first (slot ∷ slots) classes =
    ended_each m calls first slots (told_ended_of m slot.endpoint (inward.ended slot.pipe) classes)
    ∙ ap (told_ended_each (with_calls m calls first) slots) (ended_of m calls first slot.endpoint (inward.ended slot.pipe) classes)

cleared_each : {S : Type 0} (m : Machinery S) (calls : Owner → Calls S) (first : Classes S) (pipes : Pipes) (named : ℕ → Bool) (es : List Endpoint) (classes : Classes S)
    → told_cleared_each m pipes named es classes ≡ told_cleared_each (with_calls m calls first) pipes named es classes
cleared_each m calls first pipes named [] classes = refl
cleared_each m calls first pipes named (e ∷ es) classes =
    cleared_each m calls first pipes named es (if named e.addr then told_cleared m pipes e.addr classes else classes)

-- Endpoint 0 at a task run.

changed_same : {S : Type 0} (m : Machinery S) (calls : Owner → Calls S) (first : Classes S) (d : Device S) (e : Effect)
    → changed m d e ≡ changed (with_calls m calls first) d e
changed_same m calls first d effect.None = refl
changed_same m calls first d (effect.Address n) = refl
changed_same m calls first d (effect.Configure begins) = refl
changed_same m calls first d (effect.Halt a) = refl
changed_same m calls first d (effect.Clear a) = refl
changed_same {S} m calls first d (effect.ClearInterface n) =
    ap (λ (classes : Classes S). record {
      core = record d.core { pipes = without_halts (has_endpoint m.world.set.config n) d.core.pipes (endpoints_of m.world.set.config) };
      classes = classes;
    })
    (cleared_each m calls first d.core.pipes (has_endpoint m.world.set.config n) (endpoints_of m.world.set.config) d.classes)

begun_same : {S : Type 0} (m : Machinery S) (calls : Owner → Calls S) (first : Classes S) (d : Device S) (setup : Setup) (c : Choice)
    → begun m d setup c ≡ begun (with_calls m calls first) d setup c
begun_same m calls first d setup (Own decision e) = changed_same m calls first (record d { core = staged d.core decision e setup.length }) e
begun_same m calls first d setup (Class o) = refl

taken_same : {S : Type 0} (m : Machinery S) (calls : Owner → Calls S) (first : Classes S) (d : Device S) (setup : Setup)
    → taken_up m d setup ≡ taken_up (with_calls m calls first) d setup
taken_same {S} m calls first d setup =
    ap (λ (taken : Device S). if m.knows (owner_of m.world.set setup) then taken else record d { core = foreign d.core })
    (begun_same m calls first d setup (choice m.world.set (core_state d.core) setup))

came_on_same : {S : Type 0} (m : Machinery S) (calls : Owner → Calls S) (first : Classes S) (d : Device S) (t : Transfer) (bytes : List ℕ)
    → came_on m d t bytes ≡ came_on (with_calls m calls first) d t bytes
came_on_same m calls first d (Taking o setup) bytes = refl
came_on_same m calls first d (Sending packets) bytes = refl
came_on_same m calls first d Ending bytes = refl
came_on_same m calls first d (Addressing n) bytes = refl
came_on_same m calls first d Idle bytes = refl
came_on_same m calls first d Foreign bytes = refl

advanced_same : {S : Type 0} (m : Machinery S) (calls : Owner → Calls S) (first : Classes S) (d : Device S) (t : Transfer) (stage : Stage)
    → advanced m d t stage ≡ advanced (with_calls m calls first) d t stage
advanced_same m calls first d t Sent = refl
advanced_same m calls first d t (Came bytes) = came_on_same m calls first d t bytes

stage_same : {S : Type 0} (m : Machinery S) (calls : Owner → Calls S) (first : Classes S) (d : Device S) (note : Option Stage)
    → work_stage m d note ≡ work_stage (with_calls m calls first) d note
stage_same m calls first d None = refl
stage_same m calls first d (Some stage) = advanced_same m calls first (record d { core = record d.core { finished = None } }) d.core.transfer stage

pub request_same : {S : Type 0} (m : Machinery S) (calls : Owner → Calls S) (first : Classes S) (d : Device S) (note : Option (List ℕ))
    → work_request m d note ≡ work_request (with_calls m calls first) d note
request_same m calls first d None = refl
request_same m calls first d (Some bytes) = taken_same m calls first (record d { core = record d.core { request = None } }) (fields_of bytes)

control_same : {S : Type 0} (m : Machinery S) (calls : Owner → Calls S) (first : Classes S) (d : Device S)
    → with_control_worked m d ≡ with_control_worked (with_calls m calls first) d
control_same m calls first d =
    let staged_ = work_stage m d d.core.finished in
    request_same m calls first staged_ staged_.core.request
    ∙ ap (with_request_worked (with_calls m calls first)) (stage_same m calls first d d.core.finished)

-- The pipes and the classes' work.

pub notes_same : {S : Type 0} (m : Machinery S) (calls : Owner → Calls S) (first : Classes S) (d : Device S)
    → with_notes_taken m d ≡ with_notes_taken (with_calls m calls first) d
notes_same {S} m calls first d =
    ap (λ (classes : Classes S). record { core = record d.core { pipes = pipes_after_task d.core.pipes }; classes = classes })
    (ended_each m calls first d.core.pipes.ins (told_came_each m d.core.pipes.outs d.classes)
    ∙ ap (told_ended_each (with_calls m calls first) d.core.pipes.ins) (came_each m calls first d.core.pipes.outs d.classes))

worked_same : {S : Type 0} (m : Machinery S) (calls : Owner → Calls S) (first : Classes S) (os : List Owner) (d : Device S)
    → worked_each m os d ≡ worked_each (with_calls m calls first) os d
worked_same m calls first [] d = refl
worked_same m calls first (o ∷ os) d = worked_same m calls first os (worked_if m o d)

task_same : {S : Type 0} (m : Machinery S) (calls : Owner → Calls S) (first : Classes S) (d : Device S)
    → after_task m d ≡ after_task (with_calls m calls first) d
task_same m calls first d =
    let n = with_calls m calls first in
    worked_same m calls first class_owners (with_notes_taken m (with_control_worked m d))
    ∙ ap (worked_each n class_owners) (notes_same m calls first (with_control_worked m d) ∙ ap (with_notes_taken n) (control_same m calls first d))

-- Machineries that are alike.

alike_same : {S : Type 0} (m n : Machinery S) → AreAlike m n → with_calls m n.world.calls n.world.first ≡ n
alike_same {S} m n a =
    ap (λ (set : Set). record { world = record { set = set; rules = m.world.rules; calls = n.world.calls; first = n.world.first }; knows = m.knows }) a.set
    ∙ ap (λ (rules : Owner → Rules S). record { world = record { set = n.world.set; rules = rules; calls = n.world.calls; first = n.world.first }; knows = m.knows }) a.rules
    ∙ ap (λ (knows : Owner → Bool). record { world = n.world; knows = knows }) a.knows

pub steps_alike : {S : Type 0} (m n : Machinery S) → AreAlike m n → (d : Device S) → StepsAlike m n d
steps_alike {S} m n a d = record {
  bus = λ e. refl;
  irq = ap (λ (x : Machinery S). after_line x d Irq) (alike_same m n a);
  task = task_same m n.world.calls n.world.first d ∙ ap (λ (x : Machinery S). after_task x d) (alike_same m n a);
}

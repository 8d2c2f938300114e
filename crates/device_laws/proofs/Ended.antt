-- A control read comes to its end.
use Rattle.std.proofs.Common.{◌≡◌, ◌<◌, ℕ, zero, suc, List, [], ◌∷◌, ◌++◌, Bool, true, false, ◌&&◌, ◌==◌, length, if◌then◌else◌, Option, Some, None, refl, sym, ap, subst, ◌∙◌, arith, append_assoc}
use Rattle.usb_packet.specs.declared.bus.Toggle.TheVariants.{D1}
use Rattle.usb_packet.specs.Setup.{fields_of}
use Rattle.usb_packet.specs.Toggles.{flipped}
use Rattle.usb_pipe.specs.Classes.{Classes, class_at}
use Rattle.usb_packet.specs.declared.bus.BusEvent.TheVariants as event
use Rattle.device_line.specs.declared.line.DevLine.TheVariants.{Bus}
use Rattle.device_machine.specs.declared.control.Stage.{Stage}
use Rattle.device_machine.specs.declared.control.Stage.TheVariants.{Sent, Came}
use Rattle.device_machine.specs.declared.control.Side.{Side}
use Rattle.device_machine.specs.declared.control.Side.TheVariants.{Off, Wait, Stall, Finished}
use Rattle.device_machine.specs.Bus.{is_empty, after_setup, disturbed, finished_stage, last_of}
use Rattle.device_machine.specs.Packets.{data_packets}
use Rattle.device_machine.specs.Pipes.{pipes_after_irq}
use Rattle.device_owners.specs.Device.{World, Device, Core, Transfer, Idle, Sending, Taking, Ending, Addressing, Foreign, new_address, with_stage, with_request, after_stages, core_after_irq, sending, answered, with_data, begun, work_stage, work_request, with_request_worked, with_pipes_served, with_control_worked, after_task}
use Rattle.device_owners.specs.Lines.{whole, state_after}
use Rattle.device_schedule.proofs.Answers.{state_after-more}
use Rattle.device_laws.specs.World.{IsOfSet, core_after}
use Rattle.device_laws.specs.Reading.{Whole, Token, Handler, at_setup, gets, toggle_at, rounds, asked_lines, ReadsEnd}
use Rattle.device_laws.proofs.Stages.{some}
use Rattle.device_laws.proofs.Steps.{last_append}
use Rattle.device_laws.proofs.Whole.{of_parts, isolated}
use Rattle.device_laws.proofs.Progress.{starting, running, host_of, ready, Decides, toggle_more, gets_new}
use Rattle.device_laws.proofs.Delivery.{core_token, answer_token, irq_decides}
use Rattle.device_laws.proofs.Delivered.{host_along, same_host, set_up, acknowledges}

-- a device that a token is for
abbrev pub IsFor : Core → ℕ → Type 0
IsFor base addr = (base.bus.awake && (addr == base.bus.address)) ≡ true

-- a device whose pipes were served by a handler run
abbrev served_base : Core → Core
served_base base = record base { pipes = pipes_after_irq base.pipes }

-- one packet after the other
packets_come : {S : Type 0} (world : World S) (addr : ℕ) (base : Core) (classes : Classes S) (took : List (List ℕ)) (packet : List ℕ) (rest : List (List ℕ)) → IsFor base addr
    → (host_along world (of_parts (running base (Wait packet (is_empty rest)) None rest (toggle_at (length took))) classes) (host_of took) (Handler ∷ Token addr Whole ∷ rounds addr (length rest))).took
    ≡ took ++ packet ∷ rest
packets_come world addr base classes took packet [] h =
    ap
    (λ b. (gets (host_of took) (answer_token (running (served_base base) (ready packet []) None [] (toggle_at (length took))) b)).took)
    h
    ∙ ap (λ host. host.took) (gets_new took packet)
packets_come world addr base classes took packet (next ∷ rest) h =
    let more = took ++ packet ∷ [] in
    let d = after_task (whole world) (of_parts (running (served_base (served_base base)) Off (Some Sent) (next ∷ rest) (toggle_at (length more))) classes) in
    ap
    (λ b. (host_along world (of_parts (core_token (running (served_base base) (ready packet (next ∷ rest)) None (next ∷ rest) (toggle_at (length took))) b Whole) classes)
    (gets (host_of took) (answer_token (running (served_base base) (ready packet (next ∷ rest)) None (next ∷ rest) (toggle_at (length took))) b))
    (rounds addr (length (next ∷ rest)))).took)
    h
    ∙ ap (λ host. (host_along world (of_parts (running (served_base base) (Finished Sent) None (next ∷ rest) (flipped (toggle_at (length took)))) classes) host (rounds addr (length (next ∷ rest)))).took)
    (gets_new took packet)
    ∙ ap (λ t. (host_along world (of_parts (running (served_base base) (Finished Sent) None (next ∷ rest) t) classes) (host_of more) (rounds addr (length (next ∷ rest)))).took)
    (sym (toggle_more took packet))
    ∙ packets_come world addr (record base { pipes = d.core.pipes }) d.classes more next rest h
    ∙ append_assoc took (packet ∷ []) (next ∷ rest)

-- the task that takes the request
data_begins : (bytes : List ℕ) (base : Core) (side : Side) (transfer : Transfer) (asked : ℕ) (packet : List ℕ) (rest : List (List ℕ)) → data_packets bytes asked ≡ packet ∷ rest → 0 < asked
    → with_data (starting base [] side None None transfer) bytes asked ≡ running base (Wait packet (is_empty rest)) None rest D1
data_begins bytes base side transfer zero packet rest e h = absurd (omega arith)
data_begins bytes base side transfer (suc n) packet rest e h = ap (sending (starting base [] side None None transfer)) e

request_begins : {S : Type 0} (world : World S) (setup bytes : List ℕ) (base : Core) (classes : Classes S) (side : Side) (transfer : Transfer) (packet : List ℕ) (rest : List (List ℕ))
    → data_packets bytes (fields_of setup).length ≡ packet ∷ rest → 0 < (fields_of setup).length → Decides world.set setup bytes base
    → (work_request (whole world) (of_parts (starting base [] side None (Some setup) transfer) classes) (Some setup)).core ≡ running base (Wait packet (is_empty rest)) None rest D1
request_begins world setup bytes base classes side transfer packet rest e h d =
    ap (λ c. (begun (whole world) (of_parts (starting base [] side None None transfer) classes) (fields_of setup) c).core) d
    ∙ data_begins bytes base side transfer (fields_of setup).length packet rest e h

answered_begins : {S : Type 0} (world : World S) (setup bytes : List ℕ) (base : Core) (classes : Classes S) (taken : Bool) (transfer : Transfer) (packet : List ℕ) (rest : List (List ℕ))
    → data_packets bytes (fields_of setup).length ≡ packet ∷ rest → 0 < (fields_of setup).length → Decides world.set setup bytes base
    → (with_request_worked (whole world) (of_parts (answered (starting base [] Off None (Some setup) transfer) taken) classes)).core ≡ running base (Wait packet (is_empty rest)) None rest D1
answered_begins world setup bytes base classes true transfer packet rest e h d = request_begins world setup bytes base classes (Wait [] false) Ending packet rest e h d
answered_begins world setup bytes base classes false transfer packet rest e h d = request_begins world setup bytes base classes Stall Idle packet rest e h d

control_begins : {S : Type 0} (world : World S) (setup bytes : List ℕ) (base : Core) (classes : Classes S) (stage : Option Stage) (transfer : Transfer) (packet : List ℕ) (rest : List (List ℕ))
    → data_packets bytes (fields_of setup).length ≡ packet ∷ rest → 0 < (fields_of setup).length → Decides world.set setup bytes base
    → (with_control_worked (whole world) (of_parts (starting base [] Off stage (Some setup) transfer) classes)).core ≡ running base (Wait packet (is_empty rest)) None rest D1
control_begins world setup bytes base classes None transfer packet rest e h d = request_begins world setup bytes base classes Off transfer packet rest e h d
control_begins world setup bytes base classes (Some Sent) (Sending []) packet rest e h d = request_begins world setup bytes base classes Off Idle packet rest e h d
control_begins world setup bytes base classes (Some Sent) (Sending (p ∷ ps)) packet rest e h d = request_begins world setup bytes base classes (Wait p (is_empty ps)) (Sending ps) packet rest e h d
control_begins world setup bytes base classes (Some Sent) (Taking o request) packet rest e h d = request_begins world setup bytes base classes Off Idle packet rest e h d
control_begins world setup bytes base classes (Some Sent) Ending packet rest e h d = request_begins world setup bytes base classes Off Idle packet rest e h d
control_begins world setup bytes base classes (Some Sent) (Addressing a) packet rest e h d = request_begins world setup bytes base classes Off Idle packet rest e h d
control_begins world setup bytes base classes (Some Sent) Idle packet rest e h d = request_begins world setup bytes base classes Off Idle packet rest e h d
control_begins world setup bytes base classes (Some Sent) Foreign packet rest e h d = request_begins world setup bytes base classes Off Foreign packet rest e h d
control_begins world setup bytes base classes (Some (Came p)) (Sending ps) packet rest e h d = request_begins world setup bytes base classes Off Idle packet rest e h d
control_begins world setup bytes base classes (Some (Came p)) (Taking o request) packet rest e h d =
    answered_begins world setup bytes base (work_stage (whole world) (of_parts (starting base [] Off (Some (Came p)) (Some setup) (Taking o request)) classes) (Some (Came p))).classes
    ((world.rules o).accepts (class_at classes o) request p) (Taking o request) packet rest e h d
control_begins world setup bytes base classes (Some (Came p)) Ending packet rest e h d = request_begins world setup bytes base classes Off Idle packet rest e h d
control_begins world setup bytes base classes (Some (Came p)) (Addressing a) packet rest e h d = request_begins world setup bytes base classes Off Idle packet rest e h d
control_begins world setup bytes base classes (Some (Came p)) Idle packet rest e h d = request_begins world setup bytes base classes Off Idle packet rest e h d
control_begins world setup bytes base classes (Some (Came p)) Foreign packet rest e h d = request_begins world setup bytes base classes Off Foreign packet rest e h d

-- behind the handler run that serves it, whatever stage that finds
abbrev noted_stage : Option Stage → Option Stage → Option Stage
noted_stage None stage = stage
noted_stage (Some found) stage = Some found

found_begins : (setup : List ℕ) (base : Core) (us : List (List ℕ)) (side : Side) (stage found : Option Stage) (transfer : Transfer)
    → with_pipes_served (with_request (with_stage (starting base us side stage None transfer) found) (Some setup)) ≡ starting (served_base base) [] Off (noted_stage found stage) (Some setup) transfer
found_begins setup base us side stage None transfer = refl
found_begins setup base us side stage (Some found) transfer = refl

irq_begins : (setup : List ℕ) (base : Core) (x : List ℕ) (xs : List (List ℕ)) (side : Side) (stage : Option Stage) (transfer : Transfer)
    → last_of (x ∷ xs) ≡ Some setup → new_address transfer (finished_stage side) ≡ None
    → core_after_irq (starting base (x ∷ xs) side stage None transfer) ≡ starting (served_base base) [] Off (noted_stage (finished_stage side) stage) (Some setup) transfer
irq_begins setup base x xs side stage transfer l n =
    ap (after_stages (starting base (x ∷ xs) side stage None transfer)) n
    ∙ ap (λ o. with_pipes_served (with_request (with_stage (starting base (x ∷ xs) side stage None transfer) (finished_stage side)) o)) l
    ∙ found_begins setup base (x ∷ xs) side stage (finished_stage side) transfer

-- all of it
abbrev pub Ends : {S : Type 0} → World S → ℕ → Core → Classes S → List (List ℕ) → Type 0
Ends world addr core classes packets = (host_along world (of_parts core classes) at_setup (rounds addr (length packets))).took ≡ packets

read_ends : {S : Type 0} (world : World S) (addr : ℕ) (setup bytes : List ℕ) (base : Core) (classes : Classes S) (x : List ℕ) (xs : List (List ℕ)) (side : Side) (stage : Option Stage) (transfer : Transfer)
    (packets : List (List ℕ)) → data_packets bytes (fields_of setup).length ≡ packets → 0 < length packets → 0 < (fields_of setup).length → Decides world.set setup bytes base
    → last_of (x ∷ xs) ≡ Some setup → new_address transfer (finished_stage side) ≡ None → IsFor base addr
    → Ends world addr (starting base (x ∷ xs) side stage None transfer) classes packets
read_ends world addr setup bytes base classes x xs side stage transfer [] e s h d l n f = absurd (omega arith)
read_ends world addr setup bytes base classes x xs side stage transfer (packet ∷ rest) e s h d l n f =
    let found = noted_stage (finished_stage side) stage in
    let t = after_task (whole world) (of_parts (starting (served_base base) [] Off found (Some setup) transfer) classes) in
    ap (λ core. (host_along world (after_task (whole world) (of_parts core classes)) at_setup (Handler ∷ Token addr Whole ∷ rounds addr (length rest))).took) (irq_begins setup base x xs side stage transfer l n)
    ∙ ap (λ (core : Core). (host_along world (of_parts (record core { pipes = t.core.pipes }) t.classes) at_setup (Handler ∷ Token addr Whole ∷ rounds addr (length rest))).took)
    (control_begins world setup bytes (served_base base) classes found transfer packet rest e h (irq_decides world.set setup bytes base d))
    ∙ packets_come world addr (record base { pipes = t.core.pipes }) t.classes [] packet rest f

ends_at : {S : Type 0} (world : World S) (addr : ℕ) (setup bytes : List ℕ) (core : Core) (classes : Classes S) (unserved : List (List ℕ)) (reset : Bool) (request : Option (List ℕ)) → reset ≡ false → request ≡ None
    → new_address core.transfer (finished_stage (disturbed core.bus.side)) ≡ None → Decides world.set setup bytes core → 0 < (fields_of setup).length → IsFor core addr
    → Ends world addr (set_up core setup unserved reset request) classes (data_packets bytes (fields_of setup).length)
ends_at world addr setup bytes core classes unserved true request r q n d h f = absurd (cc)
ends_at world addr setup bytes core classes unserved false (Some other) r q n d h f = absurd (cc)
ends_at world addr setup bytes core classes [] false None r q n d h f =
    read_ends world addr setup bytes (record core { bus = record core.bus { taken = false } }) classes setup [] (disturbed core.bus.side) core.finished core.transfer
    (data_packets bytes (fields_of setup).length) refl (some bytes (fields_of setup).length h) h d refl n f
ends_at world addr setup bytes core classes (y ∷ ys) false None r q n d h f =
    read_ends world addr setup bytes (record core { bus = record core.bus { taken = false } }) classes y (ys ++ setup ∷ []) (disturbed core.bus.side) core.finished core.transfer
    (data_packets bytes (fields_of setup).length) refl (some bytes (fields_of setup).length h) h d (last_append setup (y ∷ ys)) n f

pub reads_end : {S : Type 0} (world : World S) → IsOfSet world → ReadsEnd world
reads_end {S} world of_set lines addr setup bytes r =
    let packets = data_packets bytes (fields_of setup).length in
    let d = state_after (whole world) lines in
    let core = core_after world lines in
    let a = acknowledges world of_set lines addr setup bytes r in
    let By : Bool → Type 0 = λ b. Decides world.set setup bytes (record core { bus = if b then after_setup core.bus setup else core.bus })
    → Ends world addr (record core { bus = if b then after_setup core.bus setup else core.bus }) d.classes packets in
    ap (λ host. host.took) (same_host world (isolated world of_set) (asked_lines lines addr setup) at_setup (rounds addr (length packets)))
    ∙ ap (λ (t : Device S). (host_along world t at_setup (rounds addr (length packets))).took) (state_after-more world lines (Bus (event.Setup addr setup true)))
    ∙ subst By (sym a.heard) (λ g. ends_at world addr setup bytes core d.classes core.bus.unserved core.bus.reset core.request a.awake a.alone a.settled g r.some a.hears) (a.gives 0)

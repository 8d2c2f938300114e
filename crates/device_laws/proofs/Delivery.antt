-- Each step of a control read.
use Rattle.std.proofs.Common.{◌≡◌, ◌<◌, ℕ, zero, suc, List, [], ◌∷◌, ◌++◌, Bool, true, false, ◌&&◌, length, if◌then◌else◌, Option, Some, None, refl, sym, ap, subst, ◌∙◌, arith, append_assoc}
use Rattle.std.proofs.lemmas.List.{append-nil}
use Rattle.usb_packet.specs.declared.bus.Toggle.{Toggle}
use Rattle.usb_packet.specs.declared.bus.BusAnswer.{BusAnswer}
use Rattle.usb_packet.specs.declared.bus.BusAnswer.TheVariants as answers
use Rattle.usb_packet.specs.Setup.{fields_of}
use Rattle.usb_descriptor.specs.Set.{Set}
use Rattle.device_machine.specs.declared.control.Stage.{Stage}
use Rattle.device_machine.specs.declared.control.Stage.TheVariants.{Sent, Came}
use Rattle.device_machine.specs.declared.control.Side.{Side}
use Rattle.device_machine.specs.declared.control.Side.TheVariants.{Off, Wait, Armed, Stall, Finished}
use Rattle.device_machine.specs.Bus.{is_empty, in_answer, after_in, finished_stage, last_of}
use Rattle.device_machine.specs.Packets.{data_packets}
use Rattle.usb_pipe.specs.Classes.{Classes, class_at}
use Rattle.device_machine.specs.Pipes.{Pipes, pipes_after_irq}
use Rattle.device_machine.proofs.Slots.{irq_keeps, halts_of}
use Rattle.device_owners.specs.Device.{World, Device, Core, Transfer, Idle, Sending, Taking, Ending, Addressing, Foreign, new_address, with_stage, with_request, with_pipes_served, after_stages, core_after_irq, sending, answered, with_data, begun, work_stage, work_request, with_request_worked, with_control_worked, after_irq, after_task}
use Rattle.device_owners.specs.Lines.{whole}
use Rattle.device_laws.specs.Reading.{Fate, DataLost, AckLost, Whole, confirmed, Host, gets, host_token, toggle_at}
use Rattle.device_laws.proofs.Stages.{some}
use Rattle.device_laws.proofs.Whole.{of_parts}
use Rattle.device_laws.proofs.Progress.{starting, running, host_of, ready, Decides, decides, after_tasks, Running, Reads, heard, noted, runs, waits, lacks, has, sent, told, over, piped, toggle_more, gets_new, gets_old}
use Rattle.device_laws.proofs.Runs.{no_address}

-- An IN token

-- the bus side after it, and the host
abbrev pub core_token : Core → Bool → Fate → Core
core_token core hears fate =
    record core { bus = if hears && (confirmed fate && is_empty core.bus.unserved) then after_in core.bus core.bus.side else core.bus; pipes = if hears then core.pipes else core.pipes }

abbrev pub answer_token : Core → Bool → BusAnswer
answer_token core hears = if hears then (if is_empty core.bus.unserved then in_answer core.bus.side core.bus.toggle else answers.Nak) else answers.NoAnswer

-- one that isn't this device's leaves both
no_answer : (host : Host) (fate : Fate) → host ≡ host_token host fate answers.NoAnswer
no_answer host DataLost = refl
no_answer host AckLost = refl
no_answer host Whole = refl

no_data : (host : Host) (fate : Fate) → host ≡ host_token host fate answers.Nak
no_data host DataLost = refl
no_data host AckLost = refl
no_data host Whole = refl

stays : (packets : List (List ℕ)) (core : Core) (host other : Host) → host ≡ other → Running packets core host → Running packets core other
stays packets core host other e h = subst (λ t. Running packets core t) e h

unheard_token : (packets : List (List ℕ)) (core : Core) (host : Host) (fate : Fate) → Running packets core host
    → Running packets (core_token core false fate) (host_token host fate (answer_token core false))
unheard_token packets core host fate h = stays packets core host (host_token host fate answers.NoAnswer) (no_answer host fate) h

-- the packets from one on
pub shift : (took : List (List ℕ)) (packet : List ℕ) (rest : List (List ℕ)) → took ++ packet ∷ rest ≡ (took ++ packet ∷ []) ++ rest
shift took packet rest = sym (append_assoc took (packet ∷ []) rest)

-- it acknowledged the packet that is loaded
acked : (packets : List (List ℕ)) (base : Core) (took : List (List ℕ)) (packet : List ℕ) (rest : List (List ℕ)) → packets ≡ (took ++ packet ∷ []) ++ rest
    → Running packets (core_token (running base (ready packet rest) None rest (toggle_at (length took))) true Whole) (host_of (took ++ packet ∷ []))
acked packets base took packet [] e =
    subst (λ t. Running packets (running base Armed None [] t) (host_of (took ++ packet ∷ []))) (toggle_more took packet)
    (over base (took ++ packet ∷ []) (e ∙ append-nil (took ++ packet ∷ [])))
acked packets base took packet (next ∷ rest) e =
    subst (λ t. Running packets (running base (Finished Sent) None (next ∷ rest) t) (host_of (took ++ packet ∷ []))) (toggle_more took packet)
    (sent base (took ++ packet ∷ []) next rest e)

-- what is loaded is what is answered
answers_ready : (base : Core) (packet : List ℕ) (rest more : List (List ℕ)) (toggle : Toggle) → in_answer (ready packet rest) toggle ≡ answers.Data toggle packet
answers_ready base packet [] more toggle = refl
answers_ready base packet (next ∷ rest) more toggle = refl

gets_lacking : (base : Core) (took : List (List ℕ)) (packet : List ℕ) (rest : List (List ℕ))
    → host_of (took ++ packet ∷ []) ≡ gets (host_of took) (in_answer (ready packet rest) (toggle_at (length took)))
gets_lacking base took packet rest =
    sym (ap (gets (host_of took)) (answers_ready base packet rest rest (toggle_at (length took))) ∙ gets_new took packet)

gets_had : (base : Core) (took : List (List ℕ)) (packet : List ℕ) (rest : List (List ℕ))
    → host_of (took ++ packet ∷ []) ≡ gets (host_of (took ++ packet ∷ [])) (in_answer (ready packet rest) (toggle_at (length took)))
gets_had base took packet rest =
    sym (ap (gets (host_of (took ++ packet ∷ []))) (answers_ready base packet rest rest (toggle_at (length took))) ∙ gets_old took packet)

heard_token : (packets : List (List ℕ)) (core : Core) (host : Host) (fate : Fate) → Running packets core host
    → Running packets (core_token core true fate) (host_token host fate (answer_token core true))
heard_token packets core host DataLost (waits base took packet rest e) = waits base took packet rest e
heard_token packets core host AckLost (waits base took packet rest e) = waits base took packet rest e
heard_token packets core host Whole (waits base took packet rest e) = waits base took packet rest e
heard_token packets core host DataLost (sent base took next rest e) = sent base took next rest e
heard_token packets core host AckLost (sent base took next rest e) = sent base took next rest e
heard_token packets core host Whole (sent base took next rest e) = sent base took next rest e
heard_token packets core host DataLost (told base took next rest e) = told base took next rest e
heard_token packets core host AckLost (told base took next rest e) = told base took next rest e
heard_token packets core host Whole (told base took next rest e) = told base took next rest e
heard_token packets core host DataLost (over base took e) = over base took e
heard_token packets core host AckLost (over base took e) = over base took e
heard_token packets core host Whole (over base took e) = over base took e
heard_token packets core host DataLost (lacks base took packet rest e) = lacks base took packet rest e
heard_token packets core host AckLost (lacks base took packet rest e) =
    stays packets (running base (ready packet rest) None rest (toggle_at (length took))) (host_of (took ++ packet ∷ []))
    (gets (host_of took) (in_answer (ready packet rest) (toggle_at (length took)))) (gets_lacking base took packet rest)
    (has base took packet rest (e ∙ shift took packet rest))
heard_token packets core host Whole (lacks base took packet rest e) =
    stays packets (core_token (running base (ready packet rest) None rest (toggle_at (length took))) true Whole) (host_of (took ++ packet ∷ []))
    (gets (host_of took) (in_answer (ready packet rest) (toggle_at (length took)))) (gets_lacking base took packet rest)
    (acked packets base took packet rest (e ∙ shift took packet rest))
heard_token packets core host DataLost (has base took packet rest e) = has base took packet rest e
heard_token packets core host AckLost (has base took packet rest e) =
    stays packets (running base (ready packet rest) None rest (toggle_at (length took))) (host_of (took ++ packet ∷ []))
    (gets (host_of (took ++ packet ∷ [])) (in_answer (ready packet rest) (toggle_at (length took)))) (gets_had base took packet rest)
    (has base took packet rest e)
heard_token packets core host Whole (has base took packet rest e) =
    stays packets (core_token (running base (ready packet rest) None rest (toggle_at (length took))) true Whole) (host_of (took ++ packet ∷ []))
    (gets (host_of (took ++ packet ∷ [])) (in_answer (ready packet rest) (toggle_at (length took)))) (gets_had base took packet rest)
    (acked packets base took packet rest e)

running_token : (packets : List (List ℕ)) (core : Core) (host : Host) (hears : Bool) (fate : Fate) → Running packets core host
    → Running packets (core_token core hears fate) (host_token host fate (answer_token core hears))
running_token packets core host true fate h = heard_token packets core host fate h
running_token packets core host false fate h = unheard_token packets core host fate h

-- The device after one
abbrev pub device_token : {S : Type 0} → Device S → Bool → Fate → Device S
device_token d hears fate = of_parts (core_token d.core hears fate) d.classes

pub token_step : {S : Type 0} (world : World S) (setup bytes : List ℕ) (packets : List (List ℕ)) (d : Device S) (host : Host) (hears : Bool) (fate : Fate)
    → Reads world setup bytes packets d host → Reads world setup bytes packets (device_token d hears fate) (host_token host fate (answer_token d.core hears))
token_step world setup bytes packets d host true DataLost (heard base classes x xs side stage transfer l n g) = heard base classes x xs side stage transfer l n g
token_step world setup bytes packets d host true AckLost (heard base classes x xs side stage transfer l n g) = heard base classes x xs side stage transfer l n g
token_step world setup bytes packets d host true Whole (heard base classes x xs side stage transfer l n g) = heard base classes x xs side stage transfer l n g
token_step world setup bytes packets d host false DataLost (heard base classes x xs side stage transfer l n g) = heard base classes x xs side stage transfer l n g
token_step world setup bytes packets d host false AckLost (heard base classes x xs side stage transfer l n g) = heard base classes x xs side stage transfer l n g
token_step world setup bytes packets d host false Whole (heard base classes x xs side stage transfer l n g) = heard base classes x xs side stage transfer l n g
token_step world setup bytes packets d host true DataLost (noted base classes stage transfer g) = noted base classes stage transfer g
token_step world setup bytes packets d host true AckLost (noted base classes stage transfer g) = noted base classes stage transfer g
token_step world setup bytes packets d host true Whole (noted base classes stage transfer g) = noted base classes stage transfer g
token_step world setup bytes packets d host false DataLost (noted base classes stage transfer g) = noted base classes stage transfer g
token_step world setup bytes packets d host false AckLost (noted base classes stage transfer g) = noted base classes stage transfer g
token_step world setup bytes packets d host false Whole (noted base classes stage transfer g) = noted base classes stage transfer g
token_step world setup bytes packets d host hears fate (runs core classes h r) =
    runs (core_token core hears fate) classes (host_token h fate (answer_token core hears)) (running_token packets core h hears fate r)

-- A handler run

running_irq : (packets : List (List ℕ)) (core : Core) (host : Host) → Running packets core host → Running packets (core_after_irq core) host
running_irq packets core host (waits base took packet rest e) = piped (pipes_after_irq base.pipes) (lacks base took packet rest e)
running_irq packets core host (lacks base took packet [] e) = piped (pipes_after_irq base.pipes) (lacks base took packet [] e)
running_irq packets core host (lacks base took packet (next ∷ rest) e) = piped (pipes_after_irq base.pipes) (lacks base took packet (next ∷ rest) e)
running_irq packets core host (has base took packet [] e) = piped (pipes_after_irq base.pipes) (has base took packet [] e)
running_irq packets core host (has base took packet (next ∷ rest) e) = piped (pipes_after_irq base.pipes) (has base took packet (next ∷ rest) e)
running_irq packets core host (sent base took next rest e) = piped (pipes_after_irq base.pipes) (told base took next rest e)
running_irq packets core host (told base took next rest e) = piped (pipes_after_irq base.pipes) (told base took next rest e)
running_irq packets core host (over base took e) = piped (pipes_after_irq base.pipes) (over base took e)

-- what it leaves of pipes has the same halts
pub irq_decides : (set : Set) (setup bytes : List ℕ) (base : Core) → Decides set setup bytes base → Decides set setup bytes (record base { pipes = pipes_after_irq base.pipes })
irq_decides set setup bytes base d = decides set setup bytes base (pipes_after_irq base.pipes) (halts_of (pipes_after_irq base.pipes) base.pipes (irq_keeps base.pipes)) d

-- it serves the SETUP, whatever stage it finds
serves : {S : Type 0} (world : World S) (setup bytes : List ℕ) (packets : List (List ℕ)) (base : Core) (classes : Classes S) (us : List (List ℕ)) (side : Side) (stage found : Option Stage) (transfer : Transfer)
    → Decides world.set setup bytes base
    → Reads world setup bytes packets (of_parts (with_pipes_served (with_request (with_stage (starting base us side stage None transfer) found) (Some setup))) classes) (host_of [])
serves world setup bytes packets base classes us side stage None transfer d =
    noted (record base { pipes = pipes_after_irq base.pipes }) classes stage transfer (irq_decides world.set setup bytes base d)
serves world setup bytes packets base classes us side stage (Some found) transfer d =
    noted (record base { pipes = pipes_after_irq base.pipes }) classes (Some found) transfer (irq_decides world.set setup bytes base d)

pub irq_step : {S : Type 0} (world : World S) (setup bytes : List ℕ) (packets : List (List ℕ)) (d : Device S) (host : Host) → Reads world setup bytes packets d host
    → Reads world setup bytes packets (after_irq (whole world) d) host
irq_step world setup bytes packets d host (heard base classes x xs side stage transfer l n g) =
    subst (λ a. Reads world setup bytes packets (of_parts (after_stages (starting base (x ∷ xs) side stage None transfer) a) classes) (host_of [])) (sym n)
    (subst (λ o. Reads world setup bytes packets (of_parts (with_pipes_served (with_request (with_stage (starting base (x ∷ xs) side stage None transfer) (finished_stage side)) o)) classes) (host_of [])) (sym l)
    (serves world setup bytes packets base classes (x ∷ xs) side stage (finished_stage side) transfer (g 0)))
irq_step world setup bytes packets d host (noted base classes stage transfer g) =
    subst (λ a. Reads world setup bytes packets (of_parts (after_stages (starting base [] Off stage (Some setup) transfer) a) classes) (host_of [])) (sym (no_address transfer))
    (noted (record base { pipes = pipes_after_irq base.pipes }) classes stage transfer (irq_decides world.set setup bytes base g))
irq_step world setup bytes packets d host (runs core classes h r) = runs (core_after_irq core) (after_irq (whole world) (of_parts core classes)).classes h (running_irq packets core h r)

-- A task run

running_task : {S : Type 0} (world : World S) (packets : List (List ℕ)) (core : Core) (classes : Classes S) (host : Host) → Running packets core host
    → Running packets (with_control_worked (whole world) (of_parts core classes)).core host
running_task world packets core classes host (waits base took packet rest e) = waits base took packet rest e
running_task world packets core classes host (lacks base took packet rest e) = lacks base took packet rest e
running_task world packets core classes host (has base took packet rest e) = has base took packet rest e
running_task world packets core classes host (sent base took next rest e) = sent base took next rest e
running_task world packets core classes host (told base took next rest e) = waits base took next rest e
running_task world packets core classes host (over base took e) = over base took e

-- which begins the data stage with its first packet
begins_packets : (packets : List (List ℕ)) (base : Core) (side : Side) (transfer : Transfer) (ps : List (List ℕ)) → packets ≡ ps → 0 < length ps
    → Running packets (sending (starting base [] side None None transfer) ps) (host_of [])
begins_packets packets base side transfer [] e h = absurd (omega arith)
begins_packets packets base side transfer (p ∷ ps) e h = waits base [] p ps e

begins_data : (bytes : List ℕ) (packets : List (List ℕ)) (base : Core) (side : Side) (transfer : Transfer) (asked : ℕ) → packets ≡ data_packets bytes asked → 0 < asked
    → Running packets (with_data (starting base [] side None None transfer) bytes asked) (host_of [])
begins_data bytes packets base side transfer zero e h = absurd (omega arith)
begins_data bytes packets base side transfer (suc n) e h = begins_packets packets base side transfer (data_packets bytes (suc n)) e (some bytes (suc n) h)

begins : {S : Type 0} (world : World S) (setup bytes : List ℕ) (packets : List (List ℕ)) (base : Core) (classes : Classes S) (side : Side) (transfer : Transfer)
    → packets ≡ data_packets bytes (fields_of setup).length → 0 < (fields_of setup).length → Decides world.set setup bytes base
    → Running packets (work_request (whole world) (of_parts (starting base [] side None (Some setup) transfer) classes) (Some setup)).core (host_of [])
begins world setup bytes packets base classes side transfer e h d =
    subst (λ c. Running packets (begun (whole world) (of_parts (starting base [] side None None transfer) classes) (fields_of setup) c).core (host_of [])) (sym d)
    (begins_data bytes packets base side transfer (fields_of setup).length e h)

-- behind data that a class took or refused
begins_answered : {S : Type 0} (world : World S) (setup bytes : List ℕ) (packets : List (List ℕ)) (base : Core) (classes : Classes S) (taken : Bool) (transfer : Transfer)
    → packets ≡ data_packets bytes (fields_of setup).length → 0 < (fields_of setup).length → Decides world.set setup bytes base
    → Running packets (with_request_worked (whole world) (of_parts (answered (starting base [] Off None (Some setup) transfer) taken) classes)).core (host_of [])
begins_answered world setup bytes packets base classes true transfer e h d = begins world setup bytes packets base classes (Wait [] false) Ending e h d
begins_answered world setup bytes packets base classes false transfer e h d = begins world setup bytes packets base classes Stall Idle e h d

takes_request : {S : Type 0} (world : World S) (setup bytes : List ℕ) (packets : List (List ℕ)) (base : Core) (classes : Classes S) (stage : Option Stage) (transfer : Transfer)
    → packets ≡ data_packets bytes (fields_of setup).length → 0 < (fields_of setup).length → Decides world.set setup bytes base
    → Running packets (with_control_worked (whole world) (of_parts (starting base [] Off stage (Some setup) transfer) classes)).core (host_of [])
takes_request world setup bytes packets base classes None transfer e h d = begins world setup bytes packets base classes Off transfer e h d
takes_request world setup bytes packets base classes (Some Sent) (Sending []) e h d = begins world setup bytes packets base classes Off Idle e h d
takes_request world setup bytes packets base classes (Some Sent) (Sending (p ∷ ps)) e h d = begins world setup bytes packets base classes (Wait p (is_empty ps)) (Sending ps) e h d
takes_request world setup bytes packets base classes (Some Sent) (Taking o request) e h d = begins world setup bytes packets base classes Off Idle e h d
takes_request world setup bytes packets base classes (Some Sent) Ending e h d = begins world setup bytes packets base classes Off Idle e h d
takes_request world setup bytes packets base classes (Some Sent) (Addressing a) e h d = begins world setup bytes packets base classes Off Idle e h d
takes_request world setup bytes packets base classes (Some Sent) Idle e h d = begins world setup bytes packets base classes Off Idle e h d
takes_request world setup bytes packets base classes (Some Sent) Foreign e h d = begins world setup bytes packets base classes Off Foreign e h d
takes_request world setup bytes packets base classes (Some (Came p)) (Sending ps) e h d = begins world setup bytes packets base classes Off Idle e h d
takes_request world setup bytes packets base classes (Some (Came p)) (Taking o request) e h d =
    begins_answered world setup bytes packets base (work_stage (whole world) (of_parts (starting base [] Off (Some (Came p)) (Some setup) (Taking o request)) classes) (Some (Came p))).classes
    ((world.rules o).accepts (class_at classes o) request p) (Taking o request) e h d
takes_request world setup bytes packets base classes (Some (Came p)) Ending e h d = begins world setup bytes packets base classes Off Idle e h d
takes_request world setup bytes packets base classes (Some (Came p)) (Addressing a) e h d = begins world setup bytes packets base classes Off Idle e h d
takes_request world setup bytes packets base classes (Some (Came p)) Idle e h d = begins world setup bytes packets base classes Off Idle e h d
takes_request world setup bytes packets base classes (Some (Came p)) Foreign e h d = begins world setup bytes packets base classes Off Foreign e h d

-- while a SETUP waits for a handler run, it works the stage before: such a device has this core
still_heard : {S : Type 0} (world : World S) (setup bytes : List ℕ) (packets : List (List ℕ)) (core base : Core) (classes : Classes S) (x : List ℕ) (xs : List (List ℕ)) (side : Side) (transfer : Transfer)
    → core ≡ starting base (x ∷ xs) side None None transfer → last_of (x ∷ xs) ≡ Some setup → new_address transfer (finished_stage side) ≡ None
    → ((n : ℕ) → Decides world.set setup bytes (after_tasks world (of_parts core classes) n).core) → Reads world setup bytes packets (of_parts core classes) (host_of [])
still_heard {S} world setup bytes packets core base classes x xs side transfer e l n g =
    let Is : Core → Type 0 = λ c. ((k : ℕ) → Decides world.set setup bytes (after_tasks world (of_parts c classes) k).core) → Reads world setup bytes packets (of_parts c classes) (host_of []) in
    subst Is (sym e) (λ h. heard base classes x xs side None transfer l n h) g

abbrev answered_side : Bool → Side
answered_side taken = if taken then Wait [] false else Stall

abbrev answered_transfer : Bool → Transfer
answered_transfer taken = if taken then Ending else Idle

answered_starting : {S : Type 0} (world : World S) (base : Core) (classes : Classes S) (us : List (List ℕ)) (side : Side) (transfer : Transfer) (pipes : Pipes) (taken : Bool)
    → record (with_request_worked (whole world) (of_parts (answered (starting base us side None None transfer) taken) classes)).core { pipes = pipes }
    ≡ starting (record base { pipes = pipes }) us (answered_side taken) None None (answered_transfer taken)
answered_starting world base classes us side transfer pipes true = refl
answered_starting world base classes us side transfer pipes false = refl

answered_none : (taken : Bool) → new_address (answered_transfer taken) (finished_stage (answered_side taken)) ≡ None
answered_none true = refl
answered_none false = refl

works : {S : Type 0} (world : World S) (setup bytes : List ℕ) (packets : List (List ℕ)) (base : Core) (classes : Classes S) (x : List ℕ) (xs : List (List ℕ)) (side : Side) (stage : Option Stage) (transfer : Transfer)
    → last_of (x ∷ xs) ≡ Some setup → new_address transfer (finished_stage side) ≡ None
    → ((n : ℕ) → Decides world.set setup bytes (after_tasks world (of_parts (starting base (x ∷ xs) side stage None transfer) classes) n).core)
    → Reads world setup bytes packets (after_task (whole world) (of_parts (starting base (x ∷ xs) side stage None transfer) classes)) (host_of [])
works world setup bytes packets base classes x xs side None transfer l n g =
    let d = after_task (whole world) (of_parts (starting base (x ∷ xs) side None None transfer) classes) in
    still_heard world setup bytes packets d.core (record base { pipes = d.core.pipes }) d.classes x xs side transfer refl l n (λ k. g (suc k))
works world setup bytes packets base classes x xs side (Some Sent) (Sending []) l n g =
    let d = after_task (whole world) (of_parts (starting base (x ∷ xs) side (Some Sent) None (Sending [])) classes) in
    still_heard world setup bytes packets d.core (record base { pipes = d.core.pipes }) d.classes x xs side Idle refl l refl (λ k. g (suc k))
works world setup bytes packets base classes x xs side (Some Sent) (Sending (q ∷ qs)) l n g =
    let d = after_task (whole world) (of_parts (starting base (x ∷ xs) side (Some Sent) None (Sending (q ∷ qs))) classes) in
    still_heard world setup bytes packets d.core (record base { pipes = d.core.pipes }) d.classes x xs (Wait q (is_empty qs)) (Sending qs) refl l refl (λ k. g (suc k))
works world setup bytes packets base classes x xs side (Some Sent) (Taking o request) l n g =
    let d = after_task (whole world) (of_parts (starting base (x ∷ xs) side (Some Sent) None (Taking o request)) classes) in
    still_heard world setup bytes packets d.core (record base { pipes = d.core.pipes }) d.classes x xs side Idle refl l refl (λ k. g (suc k))
works world setup bytes packets base classes x xs side (Some Sent) Ending l n g =
    let d = after_task (whole world) (of_parts (starting base (x ∷ xs) side (Some Sent) None Ending) classes) in
    still_heard world setup bytes packets d.core (record base { pipes = d.core.pipes }) d.classes x xs side Idle refl l refl (λ k. g (suc k))
works world setup bytes packets base classes x xs side (Some Sent) (Addressing a) l n g =
    let d = after_task (whole world) (of_parts (starting base (x ∷ xs) side (Some Sent) None (Addressing a)) classes) in
    still_heard world setup bytes packets d.core (record base { pipes = d.core.pipes }) d.classes x xs side Idle refl l refl (λ k. g (suc k))
works world setup bytes packets base classes x xs side (Some Sent) Idle l n g =
    let d = after_task (whole world) (of_parts (starting base (x ∷ xs) side (Some Sent) None Idle) classes) in
    still_heard world setup bytes packets d.core (record base { pipes = d.core.pipes }) d.classes x xs side Idle refl l refl (λ k. g (suc k))
works world setup bytes packets base classes x xs side (Some Sent) Foreign l n g =
    let d = after_task (whole world) (of_parts (starting base (x ∷ xs) side (Some Sent) None Foreign) classes) in
    still_heard world setup bytes packets d.core (record base { pipes = d.core.pipes }) d.classes x xs side Foreign refl l refl (λ k. g (suc k))
works world setup bytes packets base classes x xs side (Some (Came p)) (Sending qs) l n g =
    let d = after_task (whole world) (of_parts (starting base (x ∷ xs) side (Some (Came p)) None (Sending qs)) classes) in
    still_heard world setup bytes packets d.core (record base { pipes = d.core.pipes }) d.classes x xs side Idle refl l refl (λ k. g (suc k))
works world setup bytes packets base classes x xs side (Some (Came p)) (Taking o request) l n g =
    let d = after_task (whole world) (of_parts (starting base (x ∷ xs) side (Some (Came p)) None (Taking o request)) classes) in
    let taken = (world.rules o).accepts (class_at classes o) request p in
    still_heard world setup bytes packets d.core (record base { pipes = d.core.pipes }) d.classes x xs (answered_side taken) (answered_transfer taken)
    (answered_starting world base (work_stage (whole world) (of_parts (starting base (x ∷ xs) side (Some (Came p)) None (Taking o request)) classes) (Some (Came p))).classes
    (x ∷ xs) side (Taking o request) d.core.pipes taken) l (answered_none taken) (λ k. g (suc k))
works world setup bytes packets base classes x xs side (Some (Came p)) Ending l n g =
    let d = after_task (whole world) (of_parts (starting base (x ∷ xs) side (Some (Came p)) None Ending) classes) in
    still_heard world setup bytes packets d.core (record base { pipes = d.core.pipes }) d.classes x xs side Idle refl l refl (λ k. g (suc k))
works world setup bytes packets base classes x xs side (Some (Came p)) (Addressing a) l n g =
    let d = after_task (whole world) (of_parts (starting base (x ∷ xs) side (Some (Came p)) None (Addressing a)) classes) in
    still_heard world setup bytes packets d.core (record base { pipes = d.core.pipes }) d.classes x xs side Idle refl l refl (λ k. g (suc k))
works world setup bytes packets base classes x xs side (Some (Came p)) Idle l n g =
    let d = after_task (whole world) (of_parts (starting base (x ∷ xs) side (Some (Came p)) None Idle) classes) in
    still_heard world setup bytes packets d.core (record base { pipes = d.core.pipes }) d.classes x xs side Idle refl l refl (λ k. g (suc k))
works world setup bytes packets base classes x xs side (Some (Came p)) Foreign l n g =
    let d = after_task (whole world) (of_parts (starting base (x ∷ xs) side (Some (Came p)) None Foreign) classes) in
    still_heard world setup bytes packets d.core (record base { pipes = d.core.pipes }) d.classes x xs side Foreign refl l refl (λ k. g (suc k))

pub task_step : {S : Type 0} (world : World S) (setup bytes : List ℕ) (packets : List (List ℕ)) (d : Device S) (host : Host) → packets ≡ data_packets bytes (fields_of setup).length
    → 0 < (fields_of setup).length → Reads world setup bytes packets d host → Reads world setup bytes packets (after_task (whole world) d) host
task_step world setup bytes packets d host e h (heard base classes x xs side stage transfer l n g) = works world setup bytes packets base classes x xs side stage transfer l n g
task_step world setup bytes packets d host e h (noted base classes stage transfer g) =
    let t = after_task (whole world) (of_parts (starting base [] Off stage (Some setup) transfer) classes) in
    runs t.core t.classes (host_of []) (piped t.core.pipes (takes_request world setup bytes packets base classes stage transfer e h g))
task_step world setup bytes packets d host e h (runs core classes got r) =
    let t = after_task (whole world) (of_parts core classes) in
    runs t.core t.classes got (piped t.core.pipes (running_task world packets core classes got r))

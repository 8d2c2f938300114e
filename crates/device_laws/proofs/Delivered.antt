-- What a host has after any steps of a control read.
use Rattle.std.proofs.Common.{◌≡◌, inl, inr, ◌<◌, ℕ, List, [], ◌∷◌, ◌++◌, Bool, true, false, ◌&&◌, length, take, map, is_some, if◌then◌else◌, Option, Some, None, refl, sym, ap, subst, ◌∙◌, arith, append_assoc, length-append}
use Rattle.std.specs.List.{concat}
use Rattle.std.proofs.lemmas.List.{append-nil, length-take}
use Rattle.usb_packet.specs.declared.bus.BusAnswer.TheVariants as answers
use Rattle.usb_packet.specs.Setup.{fields_of}
use Rattle.usb_packet.specs.declared.bus.BusEvent.TheVariants as event
use Rattle.usb_pipe.specs.Classes.{Classes}
use Rattle.device_line.specs.declared.line.DevLine.{DevLine}
use Rattle.device_line.specs.declared.line.DevLine.TheVariants.{Bus}
use Rattle.device_line.specs.declared.line.Answer.TheVariants as answer
use Rattle.device_machine.specs.Bus.{hears, hears_setup, after_setup, disturbed, finished_stage}
use Rattle.device_machine.specs.Packets.{data_packets}
use Rattle.device_owners.specs.Device.{World, Device, Machinery, Core, new_address}
use Rattle.device_owners.specs.Lines.{whole, line_answer, after_line, after_lines, state_after, answer_to}
use Rattle.device_owners.specs.Isolation.{Isolates}
use Rattle.device_schedule.proofs.Answers.{state_after-more}
use Rattle.device_laws.specs.World.{IsOfSet, core_after}
use Rattle.device_laws.specs.Stages.{FullButLast, Last}
use Rattle.device_laws.specs.Seen.{Attention, Deaf, Waiting, Listening, seen_of}
use Rattle.device_laws.specs.Reading.{Step, Token, Handler, Work, line_of, Host, at_setup, host_step, host_after, IsFront, IsDue, IsDueAnswer, IsOver, IsDelivered, IsRead, asked_lines, ReadsAreDelivered}
use Rattle.device_laws.proofs.Stages.{stages}
use Rattle.device_laws.proofs.Facts.{Attends}
use Rattle.device_laws.proofs.Steps.{last_append, same_stage}
use Rattle.device_laws.proofs.Whole.{of_parts, isolated, answer_is_whole}
use Rattle.device_laws.proofs.Runs.{run_facts}
use Rattle.device_laws.proofs.Progress.{host_of, Decides, tasks, after_tasks, Running, Reads, heard, noted, runs, waits, lacks, has, sent, told, over}
use Rattle.device_laws.proofs.Delivery.{shift, answer_token, token_step, irq_step, task_step}

-- where it stands tells what the host has, and what it is answered next
running_front : (packets : List (List ℕ)) (core : Core) (host : Host) → Running packets core host → IsFront host.took packets
running_front packets core host (waits base took packet rest e) = (packet ∷ rest, e)
running_front packets core host (lacks base took packet rest e) = (packet ∷ rest, e)
running_front packets core host (has base took packet rest e) = (rest, e)
running_front packets core host (sent base took next rest e) = (next ∷ rest, e)
running_front packets core host (told base took next rest e) = (next ∷ rest, e)
running_front packets core host (over base took e) = ([], e ∙ sym (append-nil took))

front : {S : Type 0} (world : World S) (setup bytes : List ℕ) (packets : List (List ℕ)) (d : Device S) (host : Host) → Reads world setup bytes packets d host → IsFront host.took packets
front world setup bytes packets d host (heard base classes x xs side stage transfer l n g) = (packets, refl)
front world setup bytes packets d host (noted base classes stage transfer g) = (packets, refl)
front world setup bytes packets d host (runs core classes h r) = running_front packets core h r

running_due : (packets : List (List ℕ)) (core : Core) (host : Host) → Running packets core host → IsDue packets host.took (answer_token core true)
running_due packets core host (waits base took packet rest e) = tt
running_due packets core host (lacks base took packet [] e) = inl (refl, ([], e ∙ shift took packet []))
running_due packets core host (lacks base took packet (next ∷ rest) e) = inl (refl, (next ∷ rest, e ∙ shift took packet (next ∷ rest)))
running_due packets core host (has base took packet [] e) = inr (took, refl, refl)
running_due packets core host (has base took packet (next ∷ rest) e) = inr (took, refl, refl)
running_due packets core host (sent base took next rest e) = tt
running_due packets core host (told base took next rest e) = tt
running_due packets core host (over base took e) = tt

due : {S : Type 0} (world : World S) (setup bytes : List ℕ) (packets : List (List ℕ)) (d : Device S) (host : Host) (hears : Bool) → Reads world setup bytes packets d host
    → IsDue packets host.took (answer_token d.core hears)
due world setup bytes packets d host true (heard base classes x xs side stage transfer l n g) = tt
due world setup bytes packets d host true (noted base classes stage transfer g) = tt
due world setup bytes packets d host true (runs core classes h r) = running_due packets core h r
due world setup bytes packets d host false r = tt

-- the first packets of a data stage
concat-append : (xs ys : List (List ℕ)) → concat (xs ++ ys) ≡ concat xs ++ concat ys
concat-append [] ys = refl
concat-append (x ∷ xs) ys = ap (λ t. x ++ t) (concat-append xs ys) ∙ sym (append_assoc x (concat xs) (concat ys))

bytes_of : (bytes : List ℕ) (asked : ℕ) (took rest : List (List ℕ)) → data_packets bytes asked ≡ took ++ rest → take asked bytes ≡ concat took ++ concat rest
bytes_of bytes asked took rest e = sym (stages bytes asked).joined ∙ ap concat e ∙ concat-append took rest

-- where the bytes are as many as were asked for, they are all
nothing_left : (bytes took rest : List ℕ) (asked : ℕ) → take asked bytes ≡ took ++ rest → length took ≡ asked → took ≡ take asked bytes
nothing_left bytes took [] asked e n = sym (e ∙ append-nil took)
nothing_left bytes took (x ∷ xs) asked e n =
    absurd (omega (arith, length-take asked bytes, ap length e, length-append took (x ∷ xs)))

-- and where a packet isn't full, it is the last
no_more : (packet : List ℕ) (took rest : List (List ℕ)) (next : List ℕ) → FullButLast 64 ((packet ∷ took) ++ next ∷ rest) → Last (λ last. length last < 64) (packet ∷ took) → ⊥
no_more packet [] rest next full short = omega (arith, full.0)
no_more packet (second ∷ took) rest next full short = no_more second took rest next full.1 short

all : (bytes : List ℕ) (asked : ℕ) (took rest : List (List ℕ)) → data_packets bytes asked ≡ took ++ rest → IsOver asked took → concat took ≡ take asked bytes
all bytes asked [] rest e h = absurd h
all bytes asked (packet ∷ took) rest e (inl n) = nothing_left bytes (concat (packet ∷ took)) (concat rest) asked (bytes_of bytes asked (packet ∷ took) rest e) n
all bytes asked (packet ∷ took) [] e (inr short) = sym (bytes_of bytes asked (packet ∷ took) [] e ∙ append-nil (concat (packet ∷ took)))
all bytes asked (packet ∷ took) (next ∷ rest) e (inr short) = absurd (no_more packet took rest next (subst (FullButLast 64) e (stages bytes asked).full) short)

-- a host at the whole device
abbrev pub host_along : {S : Type 0} → World S → Device S → Host → List Step → Host
host_along world d host [] = host
host_along world d host (step ∷ steps) =
    host_along world (after_line (whole world) d (line_of step)) (host_step host step (line_answer (whole world) d (line_of step))) steps

-- whatever steps follow
steps_read : {S : Type 0} (world : World S) (setup bytes : List ℕ) (packets : List (List ℕ)) (d : Device S) (host : Host) (steps : List Step) → packets ≡ data_packets bytes (fields_of setup).length
    → 0 < (fields_of setup).length → Reads world setup bytes packets d host
    → Reads world setup bytes packets (after_lines (whole world) d (map line_of steps)) (host_along world d host steps)
steps_read world setup bytes packets d host [] e some h = h
steps_read world setup bytes packets d host (Token addr fate ∷ steps) e some h =
    steps_read world setup bytes packets (after_line (whole world) d (line_of (Token addr fate))) (host_step host (Token addr fate) (line_answer (whole world) d (line_of (Token addr fate)))) steps e some
    (token_step world setup bytes packets d host (hears d.core.bus addr) fate h)
steps_read world setup bytes packets d host (Handler ∷ steps) e some h =
    steps_read world setup bytes packets (after_line (whole world) d (line_of Handler)) host steps e some (irq_step world setup bytes packets d host h)
steps_read world setup bytes packets d host (Work ∷ steps) e some h =
    steps_read world setup bytes packets (after_line (whole world) d (line_of Work)) host steps e some (task_step world setup bytes packets d host e some h)

-- what a schedule answers is what the whole device does
pub same_host : {S : Type 0} (world : World S) → Isolates world → (before : List DevLine) (host : Host) (steps : List Step)
    → host_after world before host steps ≡ host_along world (state_after (whole world) before) host steps
same_host world apart before host [] = refl
same_host world apart before host (step ∷ steps) =
    same_host world apart (before ++ line_of step ∷ []) (host_step host step (answer_to world before (line_of step))) steps
    ∙ ap (λ (d : Device _). host_along world d (host_step host step (answer_to world before (line_of step))) steps) (state_after-more world before (line_of step))
    ∙ ap (λ a. host_along world (after_line (whole world) (state_after (whole world) before) (line_of step)) (host_step host step a) steps) (sym (apart.answers before (line_of step)))

after_lines-append : {S : Type 0} (m : Machinery S) (d : Device S) (one other : List DevLine) → after_lines m d (one ++ other) ≡ after_lines m (after_lines m d one) other
after_lines-append m d [] other = refl
after_lines-append m d (line ∷ one) other = after_lines-append m (after_line m d line) one other

state_after-append : {S : Type 0} (world : World S) (one other : List DevLine)
    → state_after (whole world) (one ++ other) ≡ after_lines (whole world) (state_after (whole world) one) other
state_after-append world one other = after_lines-append (whole world) (state_after (whole world) []) one other

-- where the SETUP was acknowledged
pub acknowledged : (b : Bool) → answer.Bus (if b then answers.Ack else answers.NoAnswer) ≡ answer.Bus answers.Ack → b ≡ true
acknowledged true e = refl
acknowledged false e = absurd (cc)

pub first_true : (a b : Bool) → (a && b) ≡ true → a ≡ true
first_true true b e = refl
first_true false b e = absurd (cc)

pub no_reset : (awake reset : Bool) (attention : Attention) → Attends awake reset attention → awake ≡ true → reset ≡ false
no_reset awake false attention a e = refl
no_reset false true attention a e = absurd (cc)
no_reset true true Deaf a e = absurd a
no_reset true true Waiting a e = absurd a
no_reset true true Listening a e = absurd a

pub none_noted : (request : Option (List ℕ)) → is_some request ≡ false → request ≡ None
none_noted None e = refl
none_noted (Some bytes) e = absurd (cc)

-- a device with a SETUP more
abbrev pub set_up : Core → List ℕ → List (List ℕ) → Bool → Option (List ℕ) → Core
set_up core setup unserved reset request = record core { bus = after_setup (record core.bus { reset = reset; unserved = unserved }) setup; request = request }

-- what it gives
abbrev pub Gives : {S : Type 0} → World S → List ℕ → List ℕ → Core → Classes S → Type 0
Gives world setup bytes core classes = (n : ℕ) → Decides world.set setup bytes (after_tasks world (of_parts core classes) n).core

begins_at : {S : Type 0} (world : World S) (setup bytes : List ℕ) (packets : List (List ℕ)) (core : Core) (classes : Classes S) (unserved : List (List ℕ)) (reset : Bool) (request : Option (List ℕ))
    → reset ≡ false → request ≡ None → new_address core.transfer (finished_stage (disturbed core.bus.side)) ≡ None
    → Gives world setup bytes (set_up core setup unserved reset request) classes
    → Reads world setup bytes packets (of_parts (set_up core setup unserved reset request) classes) (host_of [])
begins_at world setup bytes packets core classes unserved true request r q n d = absurd (cc)
begins_at world setup bytes packets core classes unserved false (Some other) r q n d = absurd (cc)
begins_at world setup bytes packets core classes [] false None r q n d =
    heard (record core { bus = record core.bus { taken = false } }) classes setup [] (disturbed core.bus.side) core.finished core.transfer refl n d
begins_at world setup bytes packets core classes (y ∷ ys) false None r q n d =
    heard (record core { bus = record core.bus { taken = false } }) classes y (ys ++ setup ∷ []) (disturbed core.bus.side) core.finished core.transfer (last_append setup (y ∷ ys)) n d

-- What stands where a SETUP of a control read was acknowledged.
pub record Acknowledged {S : Type 0} (world : World S) (lines : List DevLine) (addr : ℕ) (setup bytes : List ℕ) : Type 0 where
  pub heard : hears_setup (core_after world lines).bus addr true ≡ true
  pub hears : hears (core_after world lines).bus addr ≡ true
  pub awake : (core_after world lines).bus.reset ≡ false
  pub alone : (core_after world lines).request ≡ None
  pub settled : new_address (core_after world lines).transfer (finished_stage (disturbed (core_after world lines).bus.side)) ≡ None
  pub gives : (n : ℕ) → Decides world.set setup bytes (after_tasks world (after_line (whole world) (state_after (whole world) lines) (Bus (event.Setup addr setup true))) n).core

asked_tasks : {S : Type 0} (world : World S) (lines : List DevLine) (addr : ℕ) (setup : List ℕ) (n : ℕ)
    → state_after (whole world) (asked_lines lines addr setup ++ tasks n)
    ≡ after_tasks world (after_line (whole world) (state_after (whole world) lines) (Bus (event.Setup addr setup true))) n
asked_tasks world lines addr setup n =
    state_after-append world (asked_lines lines addr setup) (tasks n)
    ∙ ap (λ (d : Device _). after_tasks world d n) (state_after-more world lines (Bus (event.Setup addr setup true)))

pub acknowledges : {S : Type 0} (world : World S) → IsOfSet world → (lines : List DevLine) (addr : ℕ) (setup bytes : List ℕ) → IsRead world lines addr setup bytes → Acknowledged world lines addr setup bytes
acknowledges world of_set lines addr setup bytes r =
    let core = core_after world lines in
    let h = run_facts world of_set lines in
    let line = Bus (event.Setup addr setup true) in
    let heard : hears_setup core.bus addr true ≡ true = acknowledged (hears_setup core.bus addr true) (sym (answer_is_whole world of_set lines line) ∙ r.heard) in
    let hears : hears core.bus addr ≡ true = first_true (hears core.bus addr) _ heard in
    record {
      heard = heard;
      hears = hears;
      awake = no_reset core.bus.awake core.bus.reset (seen_of world lines).attention h.attends (first_true core.bus.awake _ hears);
      alone = none_noted core.request (h.noted ∙ r.alone);
      settled = ap (new_address core.transfer) (same_stage core.bus.side) ∙ h.due ∙ r.settled;
      gives = λ n. subst (λ (d : Device _). Decides world.set setup bytes d.core) (asked_tasks world lines addr setup n) (r.gives n);
    }

begins : {S : Type 0} (world : World S) → IsOfSet world → (lines : List DevLine) (addr : ℕ) (setup bytes : List ℕ) (packets : List (List ℕ)) → IsRead world lines addr setup bytes
    → Reads world setup bytes packets (after_line (whole world) (state_after (whole world) lines) (Bus (event.Setup addr setup true))) at_setup
begins {S} world of_set lines addr setup bytes packets r =
    let d = state_after (whole world) lines in
    let core = core_after world lines in
    let a = acknowledges world of_set lines addr setup bytes r in
    let By : Bool → Type 0 = λ b. Gives world setup bytes (record core { bus = if b then after_setup core.bus setup else core.bus }) d.classes
    → Reads world setup bytes packets (of_parts (record core { bus = if b then after_setup core.bus setup else core.bus }) d.classes) at_setup in
    subst By (sym a.heard)
    (λ g. begins_at world setup bytes packets core d.classes core.bus.unserved core.bus.reset core.request a.awake a.alone a.settled g)
    a.gives

delivered : {S : Type 0} (world : World S) → IsOfSet world → (lines : List DevLine) (setup bytes : List ℕ) (d : Device S) (host : Host) → state_after (whole world) lines ≡ d
    → Reads world setup bytes (data_packets bytes (fields_of setup).length) d host → IsDelivered world bytes (fields_of setup).length lines host
delivered world of_set lines setup bytes d host same h =
    let asked = (fields_of setup).length in
    let packets = data_packets bytes asked in
    let few = front world setup bytes packets d host h in
    record {
      front = few;
      joined = (concat few.0, bytes_of bytes asked host.took few.0 few.1);
      all = all bytes asked host.took few.0 few.1;
      due = λ a ok.
          subst (λ t. IsDueAnswer packets host.took t) ((isolated world of_set).answers lines (Bus (event.In a 0 ok)))
          (subst (λ (t : Device _). IsDue packets host.took (answer_token t.core (hears t.core.bus a))) (sym same) (due world setup bytes packets d host (hears d.core.bus a) h));
    }

pub reads_are_delivered : {S : Type 0} (world : World S) → IsOfSet world → ReadsAreDelivered world
reads_are_delivered world of_set lines addr setup bytes r steps =
    let packets = data_packets bytes (fields_of setup).length in
    let asked = asked_lines lines addr setup in
    let first = after_line (whole world) (state_after (whole world) lines) (Bus (event.Setup addr setup true)) in
    let more = state_after-more world lines (Bus (event.Setup addr setup true)) in
    let behind = asked ++ map line_of steps in
    let h = steps_read world setup bytes packets first at_setup steps refl r.some (begins world of_set lines addr setup bytes packets r) in
    let same : host_along world first at_setup steps ≡ host_after world asked at_setup steps =
    sym (same_host world (isolated world of_set) asked at_setup steps ∙ ap (λ (d : Device _). host_along world d at_setup steps) more) in
    subst (λ host. IsDelivered world bytes (fields_of setup).length behind host) same
    (delivered world of_set behind setup bytes (after_lines (whole world) first (map line_of steps)) (host_along world first at_setup steps)
    (state_after-append world asked (map line_of steps) ∙ ap (λ (d : Device _). after_lines (whole world) d (map line_of steps)) more)
    h)

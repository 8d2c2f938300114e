-- What a packet from the host makes of an OUT endpoint.
use Rattle.std.proofs.Common.{◌≡◌, ℕ, ◌<◌, ◌≤◌, List, [], ◌∷◌, length, Bool, true, false, refl, ap, sym, ◌∙◌, arith, subst}
use Rattle.std.specs.Prelude.{◌||◌, ◌&&◌, not, nat_le, if◌then◌else◌, IsTrue, slice_index}
use Rattle.std.proofs.lemmas.Bool.Decides.{nat_tests}
use Rattle.usb_packet.specs.declared.bus.Toggle.{Toggle}
use Rattle.usb_packet.specs.declared.bus.Toggle.TheVariants.{D0, D1}
use Rattle.usb_packet.specs.declared.bus.BusAnswer.TheVariants as answers
use Rattle.usb_packet.specs.Toggles.{flipped, same_toggle}
use Rattle.usb_descriptor.specs.declared.endpoint.Endpoint.{Endpoint}
use Rattle.usb_descriptor.specs.Set.{is_core}
use Rattle.device_arrivals.specs.Arrivals.{Landed}
use Rattle.usb_ring.specs.Ring.{Ring}
use Rattle.device_pipe.specs.OutPipe as pipe
use Rattle.device_pipe.specs.OutPipe.{OutPhase, OutPipe, is_ack, answer_at, after_packet}
use Rattle.device_table.specs.State.{OutEnd}
use Rattle.device_table.specs.Bus as table
use Rattle.device_table.specs.Bus.{OutOutcome, unheard, naks, stalls, drops, lands, out_landed}
use Rattle.endpoint_relation.specs.declared.out_.OutState.{OutState}
use Rattle.endpoint_relation.specs.declared.out_.OutState.TheVariants.{Closed, Rest, Armed, Posted, Stale}
use Rattle.endpoint_relation.specs.declared.out_.OutEndpoint.{OutEndpoint}
use Rattle.endpoint_relation.specs.OutWords.{shows_stall}
use Rattle.endpoint_relation.specs.OutRelation.{Lies, closed as lies_closed, closed_over, at_rest, armed as lies_armed, landed, posted, stale, Registers, OutStands, OutStandsFor}
use Rattle.endpoint_relation.specs.OutRelation.{abstract_out, is_open, is_ready, is_used, size_in, phase_of, toggle_of}
use Rattle.endpoint_relation.specs.OutSteps.{outcome_at, end_after, arrived_after, packet_answer, pipe_after, takes_notice}
use Rattle.endpoint_relation.specs.OutLaws.{OutPacketKept, OutPacketKeeps}
use Rattle.endpoint_relation.proofs.OutFields.{never, and_true}
use Rattle.endpoint_relation.proofs.OutCalls.{at, pipe_of}

-- The outcome, by what the registers fix.

abbrev outcome_by : (heard used fits stall enabled nak same room : Bool) → OutOutcome
outcome_by heard used fits stall enabled nak same room =
    if not (heard && (used && fits)) then unheard
    else if stall then stalls
    else if not enabled || nak then naks
    else if not same then drops
    else if not room then naks
    else lands

-- an endpoint that takes no packet, and one that takes the next one
abbrev quiet : (notice stall : Bool) → OutOutcome
quiet notice stall = if not notice then unheard else if stall then stalls else naks

abbrev ready : (notice stall same : Bool) → OutOutcome
ready notice stall same = if not notice then unheard else if stall then stalls else if not same then drops else lands

pub unused_is : (heard used fits stall enabled nak same room : Bool) → used ≡ false → outcome_by heard used fits stall enabled nak same room ≡ unheard
unused_is true used fits stall enabled nak same room e = rw e refl
unused_is false used fits stall enabled nak same room e = refl

quiet_is : (heard used fits stall enabled nak same room : Bool) → used ≡ true → enabled ≡ false
    → outcome_by heard used fits stall enabled nak same room ≡ quiet (heard && fits) stall
quiet_is heard used fits stall enabled nak same room e k = rw (e, k) refl

ready_is : (heard used fits stall enabled nak same room : Bool) → used ≡ true → enabled ≡ true → nak ≡ false → room ≡ true
    → outcome_by heard used fits stall enabled nak same room ≡ ready (heard && fits) stall same
ready_is heard used fits stall enabled nak same room e k l m = rw (e, k, l, m) refl

-- what an outcome makes of it
record PacketBy (number : ℕ) (end : OutEnd) (s : OutEndpoint) (arrived : List Landed) (ring : Ring) (toggle : Toggle) (bytes : List ℕ) (heard : Bool) (outcome : OutOutcome) : Type 0 where
  answer : table.out_answer outcome ≡ packet_answer s (abstract_out end s arrived ring.bytes) bytes heard
  next : OutStandsFor number (end_after outcome end) s (arrived_after outcome arrived toggle bytes) ring (pipe_after s (abstract_out end s arrived ring.bytes) toggle bytes heard)

-- Where no endpoint is open.

silent : (notice core : Bool) → answers.NoAnswer ≡ (if notice then (if core then answers.NoAnswer else answers.NoAnswer) else answers.NoAnswer)
silent true true = refl
silent true false = refl
silent false core = refl

same_pipe : (notice : Bool) (p : OutPipe) → p ≡ (if notice then p else p)
same_pipe true p = refl
same_pipe false p = refl

closed_packet : (number : ℕ) (end : OutEnd) (endpoint : Endpoint) (halt over : Bool) (arrived : List Landed) (ring : Ring) (toggle : Toggle) (bytes : List ℕ) (heard : Bool)
    → OutStands number end (at endpoint Closed halt over) arrived ring → PacketBy number end (at endpoint Closed halt over) arrived ring toggle bytes heard unheard
closed_packet number end endpoint halt over arrived ring toggle bytes heard st =
    let s = at endpoint Closed halt over in
    let notice = takes_notice s bytes heard in
    record {
      answer = silent notice (is_core endpoint.owner);
      next = record { stands = st; pipe = same_pipe notice (pipe_of (pipe.Closed over) halt D0 ring.bytes) };
    }

-- One that is open and takes no packet.

quiet_answers : (notice halt core : Bool)
    → table.out_answer (quiet notice (halt && not core)) ≡ (if notice then (if core then answers.Nak else (if halt then answers.Stall else answers.Nak)) else answers.NoAnswer)
quiet_answers false halt core = refl
quiet_answers true true true = refl
quiet_answers true true false = refl
quiet_answers true false true = refl
quiet_answers true false false = refl

quiet_pipe : (notice halt same : Bool) (x p : OutPipe) → p ≡ (if notice then (if is_ack (if halt then answers.Stall else answers.Nak) && same then x else p) else p)
quiet_pipe false halt same x p = refl
quiet_pipe true true same x p = refl
quiet_pipe true false same x p = refl

quiet_next : (P : OutEnd → List Landed → Type 0) (end : OutEnd) (arrived : List Landed) (toggle : Toggle) (bytes : List ℕ) (notice stall : Bool) → P end arrived
    → P (end_after (quiet notice stall) end) (arrived_after (quiet notice stall) arrived toggle bytes)
quiet_next P end arrived toggle bytes false stall p = p
quiet_next P end arrived toggle bytes true true p = p
quiet_next P end arrived toggle bytes true false p = p

-- phases in which an open pipe takes none
data Quiet : OutState → OutPhase → Type 0 where
  rests : Quiet Rest pipe.Rest
  took : {packet : List ℕ} → Quiet Armed (pipe.Landed packet)
  noted : Quiet Posted pipe.Posted
  passes : Quiet Stale pipe.Stale

abbrev quiet_after : OutPipe → Bool → Toggle → List ℕ → OutPipe
quiet_after p notice toggle bytes = if notice then after_packet p toggle bytes else p

quiet_after_is : {state : OutState} {phase : OutPhase} → Quiet state phase → (halt : Bool) (its : Toggle) (held : List ℕ) (notice : Bool) (toggle : Toggle) (bytes : List ℕ)
    → let p = pipe_of phase halt (toggle_of state its) held in p ≡ quiet_after p notice toggle bytes
quiet_after_is rests halt its held notice toggle bytes = quiet_pipe notice halt _ _ _
quiet_after_is took halt its held notice toggle bytes = quiet_pipe notice halt _ _ _
quiet_after_is noted halt its held notice toggle bytes = quiet_pipe notice halt _ _ _
quiet_after_is passes halt its held notice toggle bytes = quiet_pipe notice halt _ _ _

quiet_answer_is : {state : OutState} {phase : OutPhase} → Quiet state phase → (halt core notice : Bool)
    → table.out_answer (quiet notice (halt && not core)) ≡ (if notice then (if core then (if is_open state then answers.Nak else answers.NoAnswer) else answer_at phase halt) else answers.NoAnswer)
quiet_answer_is rests halt core notice = quiet_answers notice halt core
quiet_answer_is took halt core notice = quiet_answers notice halt core
quiet_answer_is noted halt core notice = quiet_answers notice halt core
quiet_answer_is passes halt core notice = quiet_answers notice halt core

quiet_packet : (number : ℕ) (end : OutEnd) (s : OutEndpoint) (arrived : List Landed) (ring : Ring) (toggle : Toggle) (bytes : List ℕ) (heard : Bool)
    → Quiet s.state (phase_of s.state s.over arrived) → OutStands number end s arrived ring
    → PacketBy number end s arrived ring toggle bytes heard (quiet (takes_notice s bytes heard) (shows_stall s))
quiet_packet number end s arrived ring toggle bytes heard q st =
    let notice = takes_notice s bytes heard in
    record {
      answer = quiet_answer_is q s.halted (is_core s.endpoint.owner) notice;
      next = quiet_next (λ new now. OutStandsFor number new s now ring (pipe_after s (abstract_out end s arrived ring.bytes) toggle bytes heard)) end arrived toggle bytes notice (shows_stall s)
          (record { stands = st; pipe = quiet_after_is q s.halted end.toggle ring.bytes notice toggle bytes });
    }

-- One that takes the next packet.

ready_answers : (notice halt same : Bool) → table.out_answer (ready notice halt same) ≡ (if notice then (if halt then answers.Stall else answers.Ack) else answers.NoAnswer)
ready_answers false halt same = refl
ready_answers true true same = refl
ready_answers true false true = refl
ready_answers true false false = refl

ready_next : (P : OutEnd → List Landed → OutPipe → Type 0) (end : OutEnd) (bytes held : List ℕ) (notice halt : Bool) (its toggle : Toggle) → P end [] (pipe_of pipe.Armed halt its held)
    → (notice ≡ true → P (out_landed end) (record { toggle = toggle; bytes = bytes } ∷ []) (pipe_of (pipe.Landed bytes) halt (flipped its) held))
    → P (end_after (ready notice halt (same_toggle its toggle)) end) (arrived_after (ready notice halt (same_toggle its toggle)) [] toggle bytes)
    (if notice then after_packet (pipe_of pipe.Armed halt its held) toggle bytes else pipe_of pipe.Armed halt its held)
ready_next P end bytes held false halt its toggle stays moves = stays
ready_next P end bytes held true true its toggle stays moves = stays
ready_next P end bytes held true false D0 D0 stays moves = moves refl
ready_next P end bytes held true false D0 D1 stays moves = stays
ready_next P end bytes held true false D1 D0 stays moves = stays
ready_next P end bytes held true false D1 D1 stays moves = moves refl

fits_in : (heard : Bool) (a b : ℕ) → (heard && nat_le a b) ≡ true → a ≤ b
fits_in true a b h = grind (arith, nat_tests)
fits_in false a b h = absurd (cc)

landed_registers : (end : OutEnd) (size : ℕ) (stalled : Bool) → Registers end true size stalled true → Registers (out_landed end) true size stalled false
landed_registers end size stalled r = record { used = r.used; sized = r.sized; stall = r.stall; enabled = refl; naks = λ _. refl; counted = never _ refl; xfrc = r.xfrc; epdisd = r.epdisd }

not_true : (b : Bool) → (IsTrue b → ⊥) → b ≡ false
not_true true h = absurd (h refl)
not_true false h = refl

ready_packet : (number : ℕ) (end : OutEnd) (endpoint : Endpoint) (halt : Bool) (ring : Ring) (toggle : Toggle) (bytes : List ℕ) (heard : Bool) → ((i : ℕ) → slice_index bytes i < 256)
    → is_core endpoint.owner ≡ false → OutStands number end (at endpoint Armed halt false) [] ring
    → PacketBy number end (at endpoint Armed halt false) [] ring toggle bytes heard (ready (takes_notice (at endpoint Armed halt false) bytes heard) halt (same_toggle end.toggle toggle))
ready_packet number end endpoint halt ring toggle bytes heard below core st =
    let s = at endpoint Armed halt false in
    let notice = takes_notice s bytes heard in
    record {
      answer = ready_answers notice halt (same_toggle end.toggle toggle)
          ∙ ap (λ c. if notice then (if c then answers.Nak else (if halt then answers.Stall else answers.Ack)) else answers.NoAnswer) (sym core);
      next = ready_next (λ new now is. OutStandsFor number new s now ring is) end bytes ring.bytes notice halt end.toggle toggle (record { stands = st; pipe = refl })
          (λ h. record {
            stands = record {
              lies = landed (record { fits = fits_in heard (length bytes) endpoint.size h; below = below });
              registers = landed_registers end endpoint.size (shows_stall s) st.registers;
              software = st.software;
            };
            pipe = refl;
          });
    }

-- By what lies in the receive FIFO.

kept : (number : ℕ) (end : OutEnd) (s : OutEndpoint) (arrived : List Landed) (ring : Ring) (toggle : Toggle) (bytes : List ℕ) (heard room : Bool) (outcome : OutOutcome)
    → outcome_at end toggle bytes heard room ≡ outcome → PacketBy number end s arrived ring toggle bytes heard outcome → OutPacketKept number end s arrived ring toggle bytes heard room
kept number end s arrived ring toggle bytes heard room outcome e p =
    let there = subst (PacketBy number end s arrived ring toggle bytes heard) (sym e) p in
    record { answer = there.answer; next = there.next }

closed_outcome : (end : OutEnd) (toggle : Toggle) (bytes : List ℕ) (heard room : Bool) (size : ℕ) (stalled : Bool) → Registers end false size stalled false → outcome_at end toggle bytes heard room ≡ unheard
closed_outcome end toggle bytes heard room size stalled r =
    unused_is heard (is_used end.control) (nat_le (length bytes) (size_in end.control)) end.control.stall end.control.enabled end.control.nak (same_toggle end.toggle toggle) room r.used

quiet_outcome : (end : OutEnd) (toggle : Toggle) (bytes : List ℕ) (heard room : Bool) (size : ℕ) (stalled : Bool) → Registers end true size stalled false
    → outcome_at end toggle bytes heard room ≡ quiet (heard && nat_le (length bytes) size) stalled
quiet_outcome end toggle bytes heard room size stalled r =
    quiet_is heard (is_used end.control) (nat_le (length bytes) (size_in end.control)) end.control.stall end.control.enabled end.control.nak (same_toggle end.toggle toggle) room r.used r.enabled
    ∙ ap (λ n. quiet (heard && nat_le (length bytes) n) end.control.stall) (r.sized refl)
    ∙ ap (quiet (heard && nat_le (length bytes) size)) r.stall

ready_outcome : (end : OutEnd) (toggle : Toggle) (bytes : List ℕ) (heard room : Bool) (size : ℕ) (stalled : Bool) → Registers end true size stalled true → room ≡ true
    → outcome_at end toggle bytes heard room ≡ ready (heard && nat_le (length bytes) size) stalled (same_toggle end.toggle toggle)
ready_outcome end toggle bytes heard room size stalled r place =
    let same = same_toggle end.toggle toggle in
    ready_is heard (is_used end.control) (nat_le (length bytes) (size_in end.control)) end.control.stall end.control.enabled end.control.nak same room r.used r.enabled (r.naks refl) place
    ∙ ap (λ n. ready (heard && nat_le (length bytes) n) end.control.stall same) (r.sized refl)
    ∙ ap (λ x. ready (heard && nat_le (length bytes) size) x same) r.stall

packet_by : {state : OutState} {over : Bool} {arrived : List Landed} (number : ℕ) (end : OutEnd) (endpoint : Endpoint) (halt : Bool) (ring : Ring) (toggle : Toggle) (bytes : List ℕ) (heard room : Bool)
    → Lies endpoint.size state over arrived → OutStands number end (at endpoint state halt over) arrived ring → ((i : ℕ) → slice_index bytes i < 256) → (IsTrue (is_ready state arrived) → room ≡ true)
    → OutPacketKept number end (at endpoint state halt over) arrived ring toggle bytes heard room
packet_by number end endpoint halt ring toggle bytes heard room lies_closed st below place =
    kept number end (at endpoint Closed halt false) [] ring toggle bytes heard room _ (closed_outcome end toggle bytes heard room endpoint.size (shows_stall (at endpoint Closed halt false)) st.registers)
    (closed_packet number end endpoint halt false [] ring toggle bytes heard st)
packet_by number end endpoint halt ring toggle bytes heard room (closed_over p) st below place =
    kept number end (at endpoint Closed halt true) _ ring toggle bytes heard room _ (closed_outcome end toggle bytes heard room endpoint.size (shows_stall (at endpoint Closed halt true)) st.registers)
    (closed_packet number end endpoint halt true _ ring toggle bytes heard st)
packet_by number end endpoint halt ring toggle bytes heard room at_rest st below place =
    kept number end (at endpoint Rest halt false) [] ring toggle bytes heard room _ (quiet_outcome end toggle bytes heard room endpoint.size (shows_stall (at endpoint Rest halt false)) st.registers)
    (quiet_packet number end (at endpoint Rest halt false) [] ring toggle bytes heard rests st)
packet_by number end endpoint halt ring toggle bytes heard room (landed p) st below place =
    kept number end (at endpoint Armed halt false) _ ring toggle bytes heard room _ (quiet_outcome end toggle bytes heard room endpoint.size (shows_stall (at endpoint Armed halt false)) st.registers)
    (quiet_packet number end (at endpoint Armed halt false) _ ring toggle bytes heard took st)
packet_by number end endpoint halt ring toggle bytes heard room posted st below place =
    kept number end (at endpoint Posted halt false) [] ring toggle bytes heard room _ (quiet_outcome end toggle bytes heard room endpoint.size (shows_stall (at endpoint Posted halt false)) st.registers)
    (quiet_packet number end (at endpoint Posted halt false) [] ring toggle bytes heard noted st)
packet_by number end endpoint halt ring toggle bytes heard room (stale p) st below place =
    kept number end (at endpoint Stale halt true) _ ring toggle bytes heard room _ (quiet_outcome end toggle bytes heard room endpoint.size (shows_stall (at endpoint Stale halt true)) st.registers)
    (quiet_packet number end (at endpoint Stale halt true) _ ring toggle bytes heard passes st)
packet_by number end endpoint halt ring toggle bytes heard room lies_armed st below place =
    let s = at endpoint Armed halt false in
    let core : is_core endpoint.owner ≡ false = not_true (is_core endpoint.owner) (λ c. never _ refl (st.software.core c)) in
    let shown : shows_stall s ≡ halt = ap (λ c. halt && not c) core ∙ and_true halt in
    let same = same_toggle end.toggle toggle in
    kept number end s [] ring toggle bytes heard room _
    (ready_outcome end toggle bytes heard room endpoint.size (shows_stall s) st.registers (place refl) ∙ ap (λ x. ready (heard && nat_le (length bytes) endpoint.size) x same) shown)
    (ready_packet number end endpoint halt ring toggle bytes heard below core st)

pub out_packet : OutPacketKeeps
out_packet number end s arrived ring toggle bytes heard room st below place = packet_by number end s.endpoint s.halted ring toggle bytes heard room st.lies st below place

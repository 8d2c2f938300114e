-- A packet or a token on an endpoint other than 0.
use Rattle.std.proofs.Common.{◌≡◌, ◌≢◌, ℕ, zero, suc, ◌+◌, ◌<◌, ◌≤◌, List, [], ◌∷◌, ◌++◌, length, Bool, true, false, refl, ap, sym, ◌∙◌, arith, subst, get_or-set_other, get_or-set_same, length-set}
use Rattle.std.specs.Prelude.{◌==◌, ◌&&◌, ◌||◌, not, nat_le, nat_lt, if◌then◌else◌, slice_index, slice_index_or, slice_set, IsTrue}
use Rattle.std.proofs.lemmas.Bool.Decides.{nat_tests}
use Rattle.std.proofs.lemmas.List.{set-get_or}
use Rattle.std.proofs.Common.{append-nil}
use Rattle.usb_packet.specs.declared.bus.Toggle.{Toggle}
use Rattle.usb_packet.specs.declared.bus.BusAnswer.{BusAnswer}
use Rattle.usb_packet.specs.declared.bus.BusAnswer.TheVariants as answers
use Rattle.usb_packet.specs.declared.bus.BusEvent.TheVariants as event
use Rattle.usb_descriptor.specs.declared.endpoint.Endpoint.{Endpoint}
use Rattle.usb_descriptor.specs.Set.{is_core}
use Rattle.usb_ring.specs.Ring.{Ring}
use Rattle.dwc2_regs.specs.declared.access.TheConstants.{FS4}
use Rattle.dwc2_fifo.specs.Words.{word_count}
use Rattle.dwc2_fifo.specs.Rx.{Rx, Entry, room_of}
use Rattle.device_table.specs.State.{Table, OutEnd, InEnd, out_end, in_end, no_out_end, in_end_of, rx_depth}
use Rattle.device_table.specs.Bus as table
use Rattle.device_table.specs.Bus.{OutOutcome, unheard, naks, stalls, drops, lands, has_room, hears}
use Rattle.device_table.proofs.BusLemmas.{out_leaves, in_leaves}
use Rattle.device_arrivals.specs.Arrivals.{Arrival, Request, Packet, Landed, entries_of, arrivals_for, landed_on, packets_at, packets_for, AreFew, IsArrival}
use Rattle.device_arrivals.proofs.Behind.{entries_of-behind, arrivals_for-behind}
use Rattle.device_arrivals.proofs.Tells.{tells, own}
use Rattle.device_arrivals.proofs.Counts.{has_room as room_for}
use Rattle.device_arrivals.proofs.Few.{few_with_packet}
use Rattle.device_rings.specs.Rings.{Rings, out_ring, in_ring, no_ring}
use Rattle.device_pipe.specs.OutPipe as outward
use Rattle.device_pipe.specs.OutPipe.{OutPipe}
use Rattle.device_machine.specs.Bus as bus
use Rattle.device_machine.specs.Bus.{Bus}
use Rattle.device_machine.specs.Pipes.{Pipes, OutSlot, InSlot, out_slot, in_slot, with_out_slot, with_in_slot, no_out_slot, no_in_slot, out_slot_answer, out_slot_after, in_slot_answer, in_slot_after, is_out_open}
use Rattle.endpoint_relation.specs.declared.out_.OutState.{OutState}
use Rattle.endpoint_relation.specs.declared.out_.OutState.TheVariants.{Closed, Rest, Armed, Posted, Stale}
use Rattle.endpoint_relation.specs.declared.out_.OutEndpoint.{OutEndpoint}
use Rattle.endpoint_relation.specs.OutRelation.{OutStands, OutStandsFor, Lies, closed, closed_over, at_rest, armed, landed, posted, stale, abstract_out, is_ready, is_open, not_open}
use Rattle.endpoint_relation.specs.OutSteps.{outcome_at, end_after, arrived_after, packet_answer, pipe_after}
use Rattle.endpoint_relation.specs.OutTable.{outcome_on, entries_after, OutOnBus}
use Rattle.endpoint_relation.specs.OutLaws.{OutPacketKept}
use Rattle.endpoint_relation.proofs.OutTables.{out_bus, outcome_is}
use Rattle.endpoint_relation.proofs.OutPackets.{out_packet}
use Rattle.device_relation.specs.Software.{Software, Joint, out_kept}
use Rattle.device_relation.specs.Relation.{Stands, IsPacket}
use Rattle.device_relation.specs.PipeRelation.{PipesStand, OutPipePart, InPipePart}
use Rattle.device_relation.proofs.SetupEvents.{hears_is, never, not_zero}
use Rattle.device_relation.proofs.Entries.{top_is}
use Rattle.device_relation.proofs.Front.{other_front}
use Rattle.device_relation.proofs.Takes.{other_passes, own_first}
use Rattle.device_relation.proofs.Lifts.{out_changes}
use Rattle.device_relation.proofs.Runs.{past_three}

-- OUT, on an endpoint that the controller has, by its number less 1.

is_landing : OutOutcome → Bool
is_landing lands = true
is_landing unheard = false
is_landing naks = false
is_landing stalls = false
is_landing drops = false

-- a packet lands only where the endpoint is enabled
lands_enabled : (heard stall enabled nak same room : Bool)
    → (if not heard then unheard else if stall then stalls else if not enabled || nak then naks else if not same then drops else if not room then naks else lands) ≡ lands → enabled ≡ true
unfolding is_landing
lands_enabled heard stall true nak same room e = refl
lands_enabled false stall false nak same room e = never true (sym (ap is_landing e)) refl
lands_enabled true true false nak same room e = never true (sym (ap is_landing e)) refl
lands_enabled true false false nak same room e = never true (sym (ap is_landing e)) refl

no_landing : (t : Table) (s : Software) (arrivals : List Arrival) (n : ℕ) (r : Rings) → OutStands (suc n) (out_end t (suc n)) (out_kept s (suc n)) (landed_on (suc n) arrivals) (out_ring r (suc n))
    → (out_end t (suc n)).control.enabled ≡ true → landed_on (suc n) arrivals ≡ []
no_landing t s arrivals n r st e = by_state (out_kept s (suc n)).state (landed_on (suc n) arrivals) (sym st.registers.enabled ∙ e)
  where
    by_state : (state : OutState) (xs : List Landed) → is_ready state xs ≡ true → xs ≡ []
    by_state Armed [] e = refl
    by_state Armed (x ∷ xs) e = never true (sym e) refl
    by_state Closed xs e = never true (sym e) refl
    by_state Rest xs e = never true (sym e) refl
    by_state Posted xs e = never true (sym e) refl
    by_state Stale xs e = never true (sym e) refl

none_of : {A : Type 0} (xs : List A) → length xs ≡ 0 → xs ≡ []
none_of [] e = refl
none_of (x ∷ xs) e = absurd (some (length xs) e)
  where
    some : (n : ℕ) → suc n ≡ 0 → ⊥
    some n e = omega (arith, e)

-- endpoint 0 and what all share
out_zero : (t : Table) (s : Software) (m : Bus) (r : Rings) (n : ℕ) (toggle : Toggle) (bytes : List ℕ) (o : OutOutcome) (st : Stands FS4 t s m) → n < 3 → IsPacket bytes → (o ≡ lands → landed_on (suc n) st.rx.arrivals ≡ [])
    → Stands FS4 (table.after_out t (suc n) toggle bytes o) s m
out_zero t s m r n toggle bytes unheard st few h none = st
out_zero t s m r n toggle bytes naks st few h none = st
out_zero t s m r n toggle bytes stalls st few h none = st
out_zero t s m r n toggle bytes drops st few h none = st
out_zero t s m r n toggle bytes lands st few h none =
    let a = Packet (suc n) toggle bytes in
    let nothing : packets_for (suc n) st.rx.arrivals ≡ [] = none_of (packets_for (suc n) st.rx.arrivals) (sym ((own st.rx.arrivals).packets (suc n)) ∙ ap length (none refl)) in
    record {
      ins = st.ins;
      outs = st.outs;
      pair = st.pair;
      side = st.side;
      rx = record {
        arrivals = st.rx.arrivals ++ a ∷ [];
        lie = ap (λ (rx : Rx). record rx { entries = rx.entries ++ table.out_entries (suc n) toggle bytes }) st.rx.lie ∙ ap (λ es. record { left = []; entries = es; depth = rx_depth FS4 }) (entries_of-behind st.rx.arrivals a);
        its = arrivals_for-behind 0 st.rx.arrivals a ∙ ap (λ b. if b then arrivals_for 0 st.rx.arrivals ++ a ∷ [] else arrivals_for 0 st.rx.arrivals) (zero_not n) ∙ st.rx.its;
        all = few_with_packet FS4.out_eps st.rx.arrivals (suc n) toggle bytes st.rx.all (few, h.fits, h.below) nothing;
        counts = st.rx.counts;
        few = st.rx.few;
        are = st.rx.are;
      };
      rest = record { masks = st.rest.masks; hosts = st.rest.hosts; in_ends = st.rest.in_ends; out_ends = length-set t.outs n _ ∙ st.rest.out_ends };
      core = record { awake = st.core.awake; reset = st.core.reset; address = st.core.address; landed = st.core.landed; asleep = st.core.asleep; next = st.core.next };
    }
  where
    zero_not : (n : ℕ) → (0 == suc n) ≡ false
    zero_not n = grind (arith, nat_tests)

-- the pipes' answer, by what the endpoint has
no_answer : (fits core : Bool) → (if fits then (if core then answers.NoAnswer else answers.NoAnswer) else answers.NoAnswer) ≡ answers.NoAnswer
no_answer false core = refl
no_answer true true = refl
no_answer true false = refl

abbrev kept_as : Endpoint → OutState → Bool → Bool → OutEndpoint
kept_as endpoint state halted over = record { endpoint = endpoint; state = state; halted = halted; over = over }

answer_by : (endpoint : Endpoint) (halted : Bool) (end : OutEnd) (held bytes : List ℕ) {state : OutState} {over : Bool} {arrived : List Landed} → Lies endpoint.size state over arrived
    → packet_answer (kept_as endpoint state halted over) (abstract_out end (kept_as endpoint state halted over) arrived held) bytes true
    ≡ out_slot_answer (record { endpoint = endpoint; pipe = abstract_out end (kept_as endpoint state halted over) arrived held }) (length bytes)
answer_by endpoint halted end held bytes closed = no_answer (nat_le (length bytes) endpoint.size) (is_core endpoint.owner)
answer_by endpoint halted end held bytes (closed_over h) = no_answer (nat_le (length bytes) endpoint.size) (is_core endpoint.owner)
answer_by endpoint halted end held bytes at_rest = refl
answer_by endpoint halted end held bytes armed = refl
answer_by endpoint halted end held bytes (landed h) = refl
answer_by endpoint halted end held bytes posted = refl
answer_by endpoint halted end held bytes (stale h) = refl

answer_is : (n : ℕ) (s : OutEndpoint) (ring : Ring) (end : OutEnd) (arrived : List Landed) (bytes : List ℕ) (heard : Bool) → OutStands (suc n) end s arrived ring
    → packet_answer s (abstract_out end s arrived ring.bytes) bytes heard ≡ (if heard then out_slot_answer (record { endpoint = s.endpoint; pipe = abstract_out end s arrived ring.bytes }) (length bytes) else answers.NoAnswer)
answer_is n s ring end arrived bytes false st = refl
answer_is n s ring end arrived bytes true st = answer_by s.endpoint s.halted end ring.bytes bytes st.lies

abbrev slot_of : Endpoint → OutPipe → OutSlot
slot_of endpoint pipe = record { endpoint = endpoint; pipe = pipe }

-- and its next state
after_by : (endpoint : Endpoint) (halted : Bool) (end : OutEnd) (held : List ℕ) (toggle : Toggle) (bytes : List ℕ) {state : OutState} {over : Bool} {arrived : List Landed} → Lies endpoint.size state over arrived
    → (slot_of endpoint (pipe_after (kept_as endpoint state halted over) (abstract_out end (kept_as endpoint state halted over) arrived held) toggle bytes true))
    ≡ out_slot_after ((slot_of endpoint (abstract_out end (kept_as endpoint state halted over) arrived held))) toggle bytes
after_by endpoint halted end held toggle bytes l = same (nat_le (length bytes) endpoint.size) l
  where
    both : (f : Bool) (x y : OutPipe) → (slot_of endpoint (if f then x else y)) ≡ (if f then (slot_of endpoint (x)) else (slot_of endpoint (y)))
    both true x y = refl
    both false x y = refl

    none : (f : Bool) (x : OutPipe) → (slot_of endpoint (if f then x else x)) ≡ (slot_of endpoint (x))
    none true x = refl
    none false x = refl

    same : (f : Bool) {state : OutState} {over : Bool} {arrived : List Landed} → Lies endpoint.size state over arrived
        → (slot_of endpoint (pipe_after (kept_as endpoint state halted over) (abstract_out end (kept_as endpoint state halted over) arrived held) toggle bytes true))
        ≡ out_slot_after ((slot_of endpoint (abstract_out end (kept_as endpoint state halted over) arrived held))) toggle bytes
    same f closed = none (nat_le (length bytes) endpoint.size) _
    same f (closed_over h) = none (nat_le (length bytes) endpoint.size) _
    same f at_rest = both (nat_le (length bytes) endpoint.size) _ _
    same f armed = both (nat_le (length bytes) endpoint.size) _ _
    same f (landed h) = both (nat_le (length bytes) endpoint.size) _ _
    same f posted = both (nat_le (length bytes) endpoint.size) _ _
    same f (stale h) = both (nat_le (length bytes) endpoint.size) _ _

slot_after_is : (n : ℕ) (s : OutEndpoint) (ring : Ring) (end : OutEnd) (arrived : List Landed) (toggle : Toggle) (bytes : List ℕ) (heard : Bool) → OutStands (suc n) end s arrived ring
    → (slot_of s.endpoint (pipe_after s (abstract_out end s arrived ring.bytes) toggle bytes heard))
    ≡ (if heard then out_slot_after ((slot_of s.endpoint (abstract_out end s arrived ring.bytes))) toggle bytes else (slot_of s.endpoint (abstract_out end s arrived ring.bytes)))
slot_after_is n s ring end arrived toggle bytes false st = refl
slot_after_is n s ring end arrived toggle bytes true st = after_by s.endpoint s.halted end ring.bytes toggle bytes st.lies

-- What lies in the receive FIFO after it.

told : (t : Table) (s : Software) (m : Bus) (st : Stands FS4 t s m) (k : ℕ) → packets_at (suc k) t.rx.entries ≡ landed_on (suc k) st.rx.arrivals
told t s m st k = ap (λ (rx : Rx). packets_at (suc k) rx.entries) st.rx.lie ∙ (tells FS4.out_eps st.rx.arrivals top_is st.rx.all.all).packets (suc k)

landed_behind : (number : ℕ) (arrivals : List Arrival) (a : Arrival) → landed_on number (arrivals ++ a ∷ []) ≡ landed_on number arrivals ++ landed_on number (a ∷ [])
landed_behind number [] a = refl
landed_behind number (Request bytes ∷ arrivals) a = landed_behind number arrivals a
landed_behind number (Packet of toggle bytes ∷ arrivals) a = either (number == of) (landed_behind number arrivals a)
  where
    it : Landed
    it = record { toggle = toggle; bytes = bytes }

    either : (b : Bool) → landed_on number (arrivals ++ a ∷ []) ≡ landed_on number arrivals ++ landed_on number (a ∷ [])
        → (if b then it ∷ landed_on number (arrivals ++ a ∷ []) else landed_on number (arrivals ++ a ∷ [])) ≡ (if b then it ∷ landed_on number arrivals else landed_on number arrivals) ++ landed_on number (a ∷ [])
    either true h = ap (λ xs. it ∷ xs) h
    either false h = h

-- a landed packet is told behind the others of its endpoint, and of no other
pub landing_told : (t : Table) (s : Software) (m : Bus) (n k : ℕ) (toggle : Toggle) (bytes : List ℕ) (st : Stands FS4 t s m) → IsArrival FS4.out_eps (Packet (suc n) toggle bytes) → AreFew FS4.out_eps (st.rx.arrivals ++ Packet (suc n) toggle bytes ∷ [])
    → packets_at (suc k) (t.rx.entries ++ table.out_entries (suc n) toggle bytes) ≡ packets_at (suc k) t.rx.entries ++ landed_on (suc k) (Packet (suc n) toggle bytes ∷ [])
landing_told t s m n k toggle bytes st is few =
    let a = Packet (suc n) toggle bytes in
    ap (λ (rx : Rx). packets_at (suc k) (rx.entries ++ table.out_entries (suc n) toggle bytes)) st.rx.lie
    ∙ ap (packets_at (suc k)) (entries_of-behind st.rx.arrivals a)
    ∙ (tells FS4.out_eps (st.rx.arrivals ++ a ∷ []) top_is few.all).packets (suc k)
    ∙ landed_behind (suc k) st.rx.arrivals a
    ∙ ap (λ xs. xs ++ landed_on (suc k) (a ∷ [])) (sym (told t s m st k))

own_only : (n : ℕ) (toggle : Toggle) (bytes : List ℕ) → landed_on (suc n) (Packet (suc n) toggle bytes ∷ []) ≡ record { toggle = toggle; bytes = bytes } ∷ []
own_only n toggle bytes = own_first n toggle bytes []

-- all after an outcome
out_by : (t : Table) (s : Software) (m : Bus) (r : Rings) (p p' : Pipes) (n : ℕ) (toggle : Toggle) (bytes : List ℕ) (o : OutOutcome) (pipe : OutPipe) (st : Stands FS4 t s m) → n < 3 → IsPacket bytes
    → (o ≡ lands → landed_on (suc n) st.rx.arrivals ≡ [])
    → OutStandsFor (suc n) (end_after o (out_end t (suc n))) (out_kept s (suc n)) (arrived_after o (packets_at (suc n) t.rx.entries) toggle bytes) (out_ring r (suc n)) pipe
    → p'.outs ≡ slice_set p.outs n (slot_of (out_kept s (suc n)).endpoint pipe) → p'.ins ≡ p.ins
    → PipesStand FS4 t s r p → PipesStand FS4 (table.after_out t (suc n) toggle bytes o) s r p'
out_by t s m r p p' n toggle bytes o pipe st few h none new outs ins ps =
    out_changes t (table.after_out t (suc n) toggle bytes o) s s r r p p' n (end_after o (out_end t (suc n))) (out_kept s (suc n)) (arrived_after o (packets_at (suc n) t.rx.entries) toggle bytes) (out_ring r (suc n)) pipe few st.rest.out_ends
    (record {
      ends = ends_by o;
      in_ends = in_ends_by o;
      lies = lies_by o none;
      other_lies = λ k ne. others_by o none k ne;
      kepts = sym (set-get_or s.outs n (not_open false));
      in_kepts = refl;
      rings = sym (set-get_or r.outs n no_ring);
      in_rings = refl;
      slots = outs;
      in_slots = ins;
    }) new ps
  where
    a : Arrival
    a = Packet (suc n) toggle bytes

    is : IsArrival FS4.out_eps (Packet (suc n) toggle bytes)
    is = (few, h.fits, h.below)

    still_few : landed_on (suc n) st.rx.arrivals ≡ [] → AreFew FS4.out_eps (st.rx.arrivals ++ Packet (suc n) toggle bytes ∷ [])
    still_few e = few_with_packet FS4.out_eps st.rx.arrivals (suc n) toggle bytes st.rx.all is (none_of (packets_for (suc n) st.rx.arrivals) (sym ((own st.rx.arrivals).packets (suc n)) ∙ ap length e))

    ends_by : (o : OutOutcome) → (table.after_out t (suc n) toggle bytes o).outs ≡ slice_set t.outs n (end_after o (out_end t (suc n)))
    ends_by lands = refl
    ends_by unheard = sym (set-get_or t.outs n no_out_end)
    ends_by naks = sym (set-get_or t.outs n no_out_end)
    ends_by stalls = sym (set-get_or t.outs n no_out_end)
    ends_by drops = sym (set-get_or t.outs n no_out_end)

    in_ends_by : (o : OutOutcome) → (table.after_out t (suc n) toggle bytes o).ins ≡ t.ins
    in_ends_by lands = refl
    in_ends_by unheard = refl
    in_ends_by naks = refl
    in_ends_by stalls = refl
    in_ends_by drops = refl

    lies_by : (o : OutOutcome) → (o ≡ lands → landed_on (suc n) st.rx.arrivals ≡ []) → packets_at (suc n) (table.after_out t (suc n) toggle bytes o).rx.entries ≡ arrived_after o (packets_at (suc n) t.rx.entries) toggle bytes
    lies_by lands e = landing_told t s m n n toggle bytes st is (still_few (e refl)) ∙ ap (λ xs. packets_at (suc n) t.rx.entries ++ xs) (own_only n toggle bytes)
    lies_by unheard e = refl
    lies_by naks e = refl
    lies_by stalls e = refl
    lies_by drops e = refl

    others_by : (o : OutOutcome) → (o ≡ lands → landed_on (suc n) st.rx.arrivals ≡ []) → (k : ℕ) → k ≢ n → packets_at (suc k) (table.after_out t (suc n) toggle bytes o).rx.entries ≡ packets_at (suc k) t.rx.entries
    others_by lands e k ne = landing_told t s m n k toggle bytes st is (still_few (e refl)) ∙ ap (λ xs. packets_at (suc k) t.rx.entries ++ xs) (other_passes k n toggle bytes [] ne) ∙ append-nil (packets_at (suc k) t.rx.entries)
    others_by unheard e k ne = refl
    others_by naks e k ne = refl
    others_by stalls e k ne = refl
    others_by drops e k ne = refl

-- whom the device hears
heard_out : (t : Table) (s : Software) (m : Bus) (addr : ℕ) (ok : Bool) → Stands FS4 t s m → (hears t addr && ok) ≡ bus.hears_packet m addr ok
heard_out t s m addr ok st = ap (λ x. x && ok) (hears_is t s m addr st.core)

-- where the next packet is taken the receive FIFO has room
room_is : (t : Table) (s : Software) (m : Bus) (n : ℕ) (bytes : List ℕ) → Stands FS4 t s m → n < 3 → IsPacket bytes → packets_at (suc n) t.rx.entries ≡ [] → has_room t bytes ≡ true
room_is t s m n bytes st few h none =
    let nothing : packets_for (suc n) st.rx.arrivals ≡ [] = none_of (packets_for (suc n) st.rx.arrivals) (sym ((own st.rx.arrivals).packets (suc n)) ∙ ap length (sym (told t s m st n) ∙ none)) in
    ap (λ (rx : Rx). nat_le (2 + word_count (length bytes)) (room_of rx)) st.rx.lie
    ∙ is_le (2 + word_count (length bytes)) (room_of (record { left = []; entries = entries_of st.rx.arrivals; depth = rx_depth FS4 }))
    ((room_for FS4 (record t { rx = record { left = []; entries = []; depth = rx_depth FS4 } }) st.rx.arrivals refl st.rx.all).packet (suc n) (length bytes) few nothing h.fits)
  where
    is_le : (a b : ℕ) → a ≤ b → nat_le a b ≡ true
    is_le a b h = grind (arith, nat_tests)

is_ready_none : (state : OutState) (xs : List Landed) → IsTrue (is_ready state xs) → xs ≡ []
is_ready_none Armed [] h = refl
is_ready_none Armed (x ∷ xs) h = never _ refl h
is_ready_none Closed xs h = never _ refl h
is_ready_none Rest xs h = never _ refl h
is_ready_none Posted xs h = never _ refl h
is_ready_none Stale xs h = never _ refl h

pub record OutKept (t : Table) (s : Software) (m : Bus) (r : Rings) (p : Pipes) (addr n : ℕ) (toggle : Toggle) (bytes : List ℕ) (ok : Bool) : Type 0 where
  pub answer : table.bus_answer t (event.Out addr (suc n) toggle bytes ok) ≡ bus.bus_answer m p (event.Out addr (suc n) toggle bytes ok)
  pub zero : Stands FS4 (table.after_bus t (event.Out addr (suc n) toggle bytes ok)) s (bus.bus_after m (event.Out addr (suc n) toggle bytes ok))
  pub pipes : PipesStand FS4 (table.after_bus t (event.Out addr (suc n) toggle bytes ok)) s r (bus.pipes_after m p (event.Out addr (suc n) toggle bytes ok))

slot_if : (heard : Bool) (p : Pipes) (n : ℕ) (x : OutSlot) → (if heard then with_out_slot p (suc n) x else p).outs ≡ slice_set p.outs n (if heard then x else out_slot p (suc n))
slot_if true p n x = refl
slot_if false p n x = sym (set-get_or p.outs n no_out_slot)

slot_ins : (heard : Bool) (p : Pipes) (n : ℕ) (x : OutSlot) → (if heard then with_out_slot p (suc n) x else p).ins ≡ p.ins
slot_ins true p n x = refl
slot_ins false p n x = refl

pub bus_same : (m : Bus) (addr n : ℕ) (toggle : Toggle) (bytes : List ℕ) (ok : Bool) → m ≡ bus.bus_after m (event.Out addr (suc n) toggle bytes ok)
bus_same m addr n toggle bytes ok = both (bus.hears_packet m addr ok) ∙ ap (λ x. if bus.hears_packet m addr ok && (x && bus.is_empty m.unserved) then bus.after_out m toggle bytes else m) (sym (not_zero n))
  where
    both : (h : Bool) → m ≡ (if h && false then bus.after_out m toggle bytes else m)
    both true = refl
    both false = refl

pub answer_same : (m : Bus) (p : Pipes) (addr n : ℕ) (toggle : Toggle) (bytes : List ℕ) (ok : Bool)
    → (if bus.hears_packet m addr ok then out_slot_answer (out_slot p (suc n)) (length bytes) else answers.NoAnswer) ≡ bus.bus_answer m p (event.Out addr (suc n) toggle bytes ok)
answer_same m p addr n toggle bytes ok =
    ap (λ b. if bus.hears_packet m addr ok then (if b then bus.control_out_answer m toggle else out_slot_answer (out_slot p (suc n)) (length bytes)) else answers.NoAnswer) (sym (not_zero n))

-- on one of the controller's
pub out_keeps : (t : Table) (s : Software) (m : Bus) (r : Rings) (p : Pipes) (addr n : ℕ) (toggle : Toggle) (bytes : List ℕ) (ok : Bool) → n < 3 → IsPacket bytes → Stands FS4 t s m → PipesStand FS4 t s r p
    → OutKept t s m r p addr n toggle bytes ok
out_keeps t s m r p addr n toggle bytes ok few h st ps =
    let kept : OutEndpoint = out_kept s (suc n) in
    let end : OutEnd = out_end t (suc n) in
    let lie : List Landed = packets_at (suc n) t.rx.entries in
    let ring : Ring = out_ring r (suc n) in
    let heard : Bool = hears t addr && ok in
    let part : OutPipePart t s r p n = ps.outs n few in
    let o : OutOutcome = outcome_on t addr n toggle bytes ok in
    let its : OutPacketKept (suc n) end kept lie ring toggle bytes heard (has_room t bytes) =
    out_packet (suc n) end kept lie ring toggle bytes heard (has_room t bytes) part.stands h.below (λ ready. room_is t s m n bytes st few h (is_ready_none kept.state lie ready)) in
    let on : OutOnBus t addr n toggle bytes ok = out_bus t addr n toggle bytes ok in
    let told_lie : lie ≡ landed_on (suc n) st.rx.arrivals = told t s m st n in
    let none : o ≡ lands → landed_on (suc n) st.rx.arrivals ≡ [] =
    λ e. no_landing t s st.rx.arrivals n r (subst (λ xs. OutStands (suc n) end kept xs ring) told_lie part.stands) (lands_enabled _ end.control.stall end.control.enabled end.control.nak _ (has_room t bytes) e) in
    let is : table.out_outcome t addr (suc n) toggle bytes ok ≡ o = outcome_is t addr n toggle bytes ok in
    let next : Pipes = bus.pipes_after m p (event.Out addr (suc n) toggle bytes ok) in
    let slot : out_slot p (suc n) ≡ slot_of kept.endpoint (abstract_out end kept lie ring.bytes) = part.slot in
    record {
      answer = on.answer ∙ its.answer ∙ answer_is n kept ring end lie bytes heard part.stands
          ∙ ap (λ x. if heard then out_slot_answer x (length bytes) else answers.NoAnswer) (sym slot)
          ∙ ap (λ b. if b then out_slot_answer (out_slot p (suc n)) (length bytes) else answers.NoAnswer) (heard_out t s m addr ok st)
          ∙ answer_same m p addr n toggle bytes ok;
      zero = subst (λ x. Stands FS4 (table.after_bus t (event.Out addr (suc n) toggle bytes ok)) s x) (bus_same m addr n toggle bytes ok)
          (subst (λ x. Stands FS4 (table.after_out t (suc n) toggle bytes x) s m) (sym is) (out_zero t s m r n toggle bytes o st few h none));
      pipes = subst (λ x. PipesStand FS4 (table.after_out t (suc n) toggle bytes x) s r next) (sym is)
          (out_by t s m r p next n toggle bytes o (pipe_after kept (abstract_out end kept lie ring.bytes) toggle bytes heard) st few h none its.next
          (slot_if (bus.hears_packet m addr ok) p n (out_slot_after (out_slot p (suc n)) toggle bytes)
          ∙ ap (λ x. slice_set p.outs n x)
          (ap (λ b. if b then out_slot_after (out_slot p (suc n)) toggle bytes else out_slot p (suc n)) (sym (heard_out t s m addr ok st))
          ∙ ap (λ x. if heard then out_slot_after x toggle bytes else x) slot
          ∙ sym (slot_after_is n kept ring end lie toggle bytes heard part.stands)))
          (slot_ins (bus.hears_packet m addr ok) p n (out_slot_after (out_slot p (suc n)) toggle bytes)) ps);
    }

-- A token for an IN endpoint.
use Rattle.std.proofs.Common.{◌≡◌, ℕ, zero, suc, ◌+◌, ◌-◌, ◌≤◌, List, [], ◌∷◌, length, get_or, take, drop, min, Bool, true, false, Option, Some, None, refl, ap, ◌∙◌, sym, arith, subst, inr, length-take-le, length-drop}
use Rattle.std.specs.Prelude.{◌&&◌, ◌||◌, not, ◌==◌, if◌then◌else◌}
use Rattle.std.proofs.lemmas.List.{drop_more}
use Rattle.std.proofs.lemmas.Bool.Decides.{nat_tests}
use Rattle.usb_packet.specs.declared.bus.Toggle.{Toggle}
use Rattle.usb_packet.specs.declared.bus.BusAnswer.{BusAnswer}
use Rattle.usb_packet.specs.declared.bus.BusAnswer.TheVariants as answers
use Rattle.usb_packet.specs.Toggles.{flipped}
use Rattle.usb_descriptor.specs.declared.endpoint.Endpoint.{Endpoint}
use Rattle.usb_descriptor.specs.Set.{is_core}
use Rattle.dwc2_regs.specs.declared.TheConstants.{DIEPTSIZ_SIZE, DIEPTSIZ_COUNT, DIEPCTL_USBAEP}
use Rattle.dwc2_regs.specs.Field.{field_of, with_field}
use Rattle.dwc2_regs.proofs.FieldLemmas.{field_of-with_field, field_of-with_field-apart}
use Rattle.dwc2_fifo.specs.Tx.{Tx, first_with, without_first}
use Rattle.device_table.specs.State.{InEnd}
use Rattle.device_table.specs.Words.{flag}
use Rattle.device_table.specs.Bus.{InOutcome, unheard_in, naks_in, stalls_in, sends, sends_of, packet_ready, in_answer, in_acked}
use Rattle.device_pipe.specs.InPipe as pipe
use Rattle.device_pipe.specs.InPipe.{InPipe, InPhase, is_closed}
use Rattle.endpoint_relation.specs.declared.in_.InState.{InState}
use Rattle.endpoint_relation.specs.declared.in_.InState.TheVariants.{Closed, Rest, Running, Posted}
use Rattle.endpoint_relation.specs.declared.in_.InEndpoint.{InEndpoint}
use Rattle.endpoint_relation.specs.InWords.{in_open_bits}
use Rattle.endpoint_relation.specs.InRelation.{InJoint, InStands, IsTransfer, IsOpened, IsSized, abstract_in, stalls, packets_left, ready_count, ready_packets, is_some_of, fifo_of}
use Rattle.endpoint_relation.specs.InSteps.{token_outcome, end_after}
use Rattle.endpoint_relation.specs.InLaws.{InIs, TokenKeeps, answer_for}
use Rattle.endpoint_relation.proofs.InIdle.{Idle, stands_idle}
use Rattle.endpoint_relation.proofs.InCalls.{joint}

open_flag : (number : ℕ) (e : Endpoint) → e.size ≤ 64 → field_of (in_open_bits number e) DIEPCTL_USBAEP ≡ 1
open_flag number e few = omega arith

-- what comes of a token, by what decides it
abbrev outcome_by : (op stall enabled nak : Bool) → Option (List ℕ) → InOutcome
outcome_by op stall enabled nak packet =
    if not op then unheard_in
    else if stall then stalls_in
    else if not enabled || nak then naks_in
    else sends_of packet

stalls_or_naks : Bool → InOutcome
stalls_or_naks true = stalls_in
stalls_or_naks false = naks_in

not_enabled : (stall nak : Bool) (packet : Option (List ℕ)) → outcome_by true stall false nak packet ≡ stalls_or_naks stall
unfolding stalls_or_naks
not_enabled true nak packet = refl
not_enabled false nak packet = refl

by_outcome : (n : ℕ) (j : InJoint) (ok : Bool) (o : InOutcome) → token_outcome (suc n) j.end ≡ o
    → in_answer j.end.toggle o ≡ answer_for (is_core j.software.endpoint.owner) (abstract_in j)
    → InIs (suc n) (record j { end = end_after (suc n) j.end ok o }) (pipe.after_token (abstract_in j) ok)
    → TokenKeeps (suc n) j ok
by_outcome n j ok o e a i = record {
  answer = ap (in_answer j.end.toggle) e ∙ a;
  next = subst (λ x. InIs (suc n) (record j { end = end_after (suc n) j.end ok x }) (pipe.after_token (abstract_in j) ok)) (sym e) i;
}

-- an answer that is no packet leaves the pipe
stays : (p : InPipe) (ok : Bool) (a : BusAnswer) → pipe.in_answer p ≡ a → pipe.after_answer p a ≡ p → pipe.after_token p ok ≡ p
stays p true a e k = ap (pipe.after_answer p) e ∙ k
stays p false a e k = refl

-- a closed endpoint

closed_answer : (core : Bool) (p : InPipe) → is_closed p.phase ≡ true → answers.NoAnswer ≡ answer_for core p
closed_answer true p e = sym (ap (λ x. if x then answers.NoAnswer else answers.Nak) e)
closed_answer false p e = sym (ap (λ x. if x then answers.NoAnswer else (if p.halted then answers.Stall else pipe.sent p.toggle (pipe.next_packet p.phase p.loaded))) e)

token_closed : (n : ℕ) (end : InEnd) (s : InEndpoint) (ring : List ℕ) (ok : Bool) → InStands (suc n) (joint end s ring Closed) → TokenKeeps (suc n) (joint end s ring Closed) ok
token_closed n end s ring ok st =
    let j = joint end s ring Closed in
    by_outcome n j ok unheard_in
    (ap (λ k. outcome_by (flag k DIEPCTL_USBAEP) end.control.stall end.control.enabled end.control.nak (packet_ready (suc n) end)) st.kept)
    (closed_answer (is_core s.endpoint.owner) (abstract_in j) refl)
    (record { abstract = sym (stays (abstract_in j) ok answers.NoAnswer refl refl); stands = st })

-- an open one with nothing loaded

idle_outcome : (n : ℕ) (j : InJoint) → Idle (suc n) j → j.end.control.kept ≡ in_open_bits (suc n) j.software.endpoint → j.software.endpoint.size ≤ 64
    → token_outcome (suc n) j.end ≡ stalls_or_naks (stalls j.software)
idle_outcome n j i kept few =
    let c = j.end.control in
    let packet = packet_ready (suc n) j.end in
    ap (λ k. outcome_by (flag k DIEPCTL_USBAEP) c.stall c.enabled c.nak packet) kept
    ∙ ap (λ f. outcome_by (f == 1) c.stall c.enabled c.nak packet) (open_flag (suc n) j.software.endpoint few)
    ∙ ap (λ x. outcome_by true x c.enabled c.nak packet) i.stall
    ∙ ap (λ x. outcome_by true (stalls j.software) x c.nak packet) i.enabled
    ∙ not_enabled (stalls j.software) c.nak packet

-- a pipe that has no packet ready
sends_none : Bool → BusAnswer
sends_none true = answers.Stall
sends_none false = answers.Nak

idle_answer : (toggle : Toggle) (core halted : Bool) → in_answer toggle (stalls_or_naks (halted && not core)) ≡ (if core then answers.Nak else sends_none halted)
unfolding stalls_or_naks sends_none
idle_answer toggle true true = refl
idle_answer toggle true false = refl
idle_answer toggle false true = refl
idle_answer toggle false false = refl

none_answer : (halted : Bool) → (if halted then answers.Stall else answers.Nak) ≡ sends_none halted
unfolding sends_none
none_answer true = refl
none_answer false = refl

none_leaves : (p : InPipe) (halted : Bool) → pipe.after_answer p (sends_none halted) ≡ p
unfolding sends_none
none_leaves p true = refl
none_leaves p false = refl

end_stays : (n : ℕ) (end : InEnd) (ok b : Bool) → end_after (suc n) end ok (stalls_or_naks b) ≡ end
unfolding stalls_or_naks
end_stays n end ok true = refl
end_stays n end ok false = refl

open_answer : (core halted : Bool) (p : InPipe) → is_closed p.phase ≡ false → pipe.in_answer p ≡ sends_none halted → (if core then answers.Nak else sends_none halted) ≡ answer_for core p
open_answer true halted p e k = sym (ap (λ x. if x then answers.NoAnswer else answers.Nak) e)
open_answer false halted p e k = sym k

token_idle : (n : ℕ) (j : InJoint) (ok : Bool) → InStands (suc n) j → Idle (suc n) j → j.end.control.kept ≡ in_open_bits (suc n) j.software.endpoint → IsOpened j.software.endpoint
    → is_closed (abstract_in j).phase ≡ false → pipe.in_answer (abstract_in j) ≡ (if j.software.halted then answers.Stall else answers.Nak) → TokenKeeps (suc n) j ok
token_idle n j ok st i kept opened op answer =
    let core = is_core j.software.endpoint.owner in
    let halted = j.software.halted in
    let none : pipe.in_answer (abstract_in j) ≡ sends_none halted = answer ∙ none_answer halted in
    by_outcome n j ok (stalls_or_naks (stalls j.software)) (idle_outcome n j i kept opened.most)
    (idle_answer j.end.toggle core halted ∙ open_answer core halted (abstract_in j) op none)
    (subst (λ (x : InEnd). InIs (suc n) (record j { end = x }) (pipe.after_token (abstract_in j) ok)) (sym (end_stays n j.end ok (stalls j.software)))
    (record { abstract = sym (stays (abstract_in j) ok (sends_none halted) none (none_leaves (abstract_in j) halted)); stands = st }))

token_rest : (n : ℕ) (end : InEnd) (s : InEndpoint) (ring : List ℕ) (ok : Bool) → InStands (suc n) (joint end s ring Rest) → TokenKeeps (suc n) (joint end s ring Rest) ok
token_rest n end s ring ok st =
    let j = joint end s ring Rest in
    token_idle n j ok st (stands_idle (suc n) j st st.holds.load) st.kept st.holds.opened refl refl

token_posted : (n : ℕ) (end : InEnd) (s : InEndpoint) (ring : List ℕ) (ok : Bool) → InStands (suc n) (joint end s ring Posted) → TokenKeeps (suc n) (joint end s ring Posted) ok
token_posted n end s ring ok st =
    let j = joint end s ring Posted in
    token_idle n j ok st (stands_idle (suc n) j st st.holds.load) st.kept st.holds.opened refl refl

-- a packet that lies ready

not_zero : (r : ℕ) → (suc r == 0) ≡ false
not_zero r = grind (arith, nat_tests)

not_zero_below : (n : ℕ) → 1 ≤ n → (n == 0) ≡ false
not_zero_below n h = grind (arith, nat_tests)

abbrev ready_by : ℕ → ℕ → Tx → Option (List ℕ)
ready_by count size tx =
    if count == 0 then None
    else if (size == 0) && (count == 1) then Some []
    else first_with 0 tx.packets

abbrev acked_by : ℕ → ℕ → Tx → Tx
acked_by count size tx = if (size == 0) && (count == 1) then tx else record tx { packets = without_first 0 tx.packets }

-- what the FIFO and DIEPTSIZx give: the packet, and the others behind it
record Sends (size r : ℕ) (packet : List ℕ) (packets : List (List ℕ)) : Type 0 where
  ready : ready_by (suc r) size (fifo_of (packet ∷ packets)) ≡ Some packet
  acked : acked_by (suc r) size (fifo_of (packet ∷ packets)) ≡ fifo_of packets
  sized : IsSized size packets

sends_packet : (size r : ℕ) (packet : List ℕ) (packets : List (List ℕ)) → length packets ≡ r → IsSized size (packet ∷ packets) → Sends size r packet packets
sends_packet size r [] packets len h =
    let last : suc r ≡ 1 = let e = ap length h.1 in omega (arith, e) in
    record {
      ready =
          ap (λ c. ready_by c size (fifo_of ([] ∷ packets))) last ∙ ap (λ k. ready_by 1 k (fifo_of ([] ∷ packets))) h.0;
      acked =
          ap (λ c. acked_by c size (fifo_of ([] ∷ packets))) last ∙ ap (λ k. acked_by 1 k (fifo_of ([] ∷ packets))) h.0;
      sized = subst (IsSized size) (sym h.1) tt;
    }
sends_packet size r (b ∷ bytes) packets len h =
    let tx = fifo_of ((b ∷ bytes) ∷ packets) in
    let some : (size == 0) ≡ false = not_zero_below size h.0 in
    record {
      ready =
          ap (λ x. if x then None else if (size == 0) && (suc r == 1) then Some [] else first_with 0 tx.packets) (not_zero r)
          ∙ ap (λ x. if x && (suc r == 1) then Some [] else first_with 0 tx.packets) some;
      acked = ap (λ x. if x && (suc r == 1) then tx else record tx { packets = without_first 0 tx.packets }) some;
      sized = h.1;
    }

count_is : (tsiz r : ℕ) → r ≤ 2 → field_of (with_field tsiz DIEPTSIZ_COUNT r) DIEPTSIZ_COUNT ≡ r
count_is tsiz r h = field_of-with_field tsiz DIEPTSIZ_COUNT r (omega arith)

size_stays : (tsiz r : ℕ) → r ≤ 2 → field_of (with_field tsiz DIEPTSIZ_COUNT r) DIEPTSIZ_SIZE ≡ field_of tsiz DIEPTSIZ_SIZE
size_stays tsiz r h = field_of-with_field-apart tsiz DIEPTSIZ_COUNT r DIEPTSIZ_SIZE (omega arith) (inr (omega arith))

last_or_not : (r : ℕ) → (r == 0) ≡ not (is_some_of r)
last_or_not zero = refl
last_or_not (suc r) = not_zero r

not_not : (b : Bool) → not (not b) ≡ b
not_not true = refl
not_not false = refl

-- Each fact of a transfer that runs with packets ready, of which the first is `packet`.
record IsReady (j : InJoint) (l r : ℕ) (packet : List ℕ) (packets others : List (List ℕ)) : Type 0 where
  loaded : j.software.loaded ≡ suc l
  few : r ≤ l
  most : l ≤ 1
  count : field_of j.end.tsiz DIEPTSIZ_COUNT ≡ suc r
  left : drop (j.software.loaded - ready_count j.end j.software) (packets_left j.software j.ring) ≡ packet ∷ others
  next : drop (j.software.loaded - r) (packets_left j.software j.ring) ≡ others
  behind : take r others ≡ packets
  long : length packets ≡ r

is_ready : (end : InEnd) (s : InEndpoint) (ring : List ℕ) (l r : ℕ) → suc l ≡ min 2 s.left → s.left ≡ length (packets_left s ring) → r ≤ l → field_of end.tsiz DIEPTSIZ_COUNT ≡ suc r
    → IsReady (record { end = end; software = record s { loaded = suc l }; ring = ring }) l r (get_or (packets_left s ring) (l - r) []) (take r (drop (l - r + 1) (packets_left s ring))) (drop (l - r + 1) (packets_left s ring))
is_ready end s ring l r load left few count =
    let ps = packets_left s ring in
    record {
      loaded = refl;
      few = few;
      most = omega arith;
      count = count;
      left = ap (λ k. drop (suc l - k) ps) count ∙ ap (λ k. drop k ps) (omega arith) ∙ drop_more ps (l - r) [] (omega (arith, left));
      next = ap (λ k. drop k ps) (omega arith);
      behind = refl;
      long = length-take-le r (drop (l - r + 1) ps) (let e = length-drop (l - r + 1) ps in omega (arith, e, left));
    }

abbrev pub running : InEnd → InEndpoint → List ℕ → ℕ → InJoint
running end s ring l = record { end = end; software = record s { state = Running; loaded = l }; ring = ring }

-- its acknowledgement

less_one : (c r : ℕ) → c ≡ suc r → c - 1 ≡ r
less_one c r e = omega (arith, e)

count_down : (tsiz r : ℕ) → r ≤ 2 → field_of tsiz DIEPTSIZ_COUNT ≡ suc r → field_of (with_field tsiz DIEPTSIZ_COUNT (field_of tsiz DIEPTSIZ_COUNT - 1)) DIEPTSIZ_COUNT ≡ r
count_down tsiz r h e = ap (λ k. field_of (with_field tsiz DIEPTSIZ_COUNT k) DIEPTSIZ_COUNT) (less_one (field_of tsiz DIEPTSIZ_COUNT) r e) ∙ count_is tsiz r h

size_down : (tsiz r : ℕ) → r ≤ 2 → field_of tsiz DIEPTSIZ_COUNT ≡ suc r → field_of (with_field tsiz DIEPTSIZ_COUNT (field_of tsiz DIEPTSIZ_COUNT - 1)) DIEPTSIZ_SIZE ≡ field_of tsiz DIEPTSIZ_SIZE
size_down tsiz r h e = ap (λ k. field_of (with_field tsiz DIEPTSIZ_COUNT k) DIEPTSIZ_SIZE) (less_one (field_of tsiz DIEPTSIZ_COUNT) r e) ∙ size_stays tsiz r h

acked : (n : ℕ) (end : InEnd) (s : InEndpoint) (ring : List ℕ) (l r : ℕ) (packet : List ℕ) (packets others : List (List ℕ)) → InStands (suc n) (running end s ring (suc l)) → IsReady (running end s ring (suc l)) l r packet packets others
    → Sends (field_of end.tsiz DIEPTSIZ_SIZE) r packet packets → end.fifo ≡ fifo_of (packet ∷ packets)
    → InIs (suc n) (record (running end s ring (suc l)) { end = in_acked (suc n) end }) (pipe.after_answer (abstract_in (running end s ring (suc l))) (answers.Data end.toggle packet))
acked n end s ring l r packet packets others st is sent fifo =
    let j = running end s ring (suc l) in
    let ps = packets_left s ring in
    let c = field_of end.tsiz DIEPTSIZ_COUNT in
    let few = is.few in
    let most = is.most in
    let down : field_of (with_field end.tsiz DIEPTSIZ_COUNT (c - 1)) DIEPTSIZ_COUNT ≡ r = count_down end.tsiz r (omega arith) is.count in
    let same : field_of (with_field end.tsiz DIEPTSIZ_COUNT (c - 1)) DIEPTSIZ_SIZE ≡ field_of end.tsiz DIEPTSIZ_SIZE = size_down end.tsiz r (omega arith) is.count in
    let Made : InPhase → ℕ → Toggle → InPipe = λ phase loaded toggle. record { queue = ring; phase = phase; loaded = loaded; toggle = toggle; halted = s.halted } in
    let one : c - 1 ≡ r = less_one c r is.count in
    let zero_is : (c - 1 == 0) ≡ not (is_some_of r) = ap (λ x. x == 0) one ∙ last_or_not r in
    let ready : take (field_of (with_field end.tsiz DIEPTSIZ_COUNT (c - 1)) DIEPTSIZ_COUNT) (drop (suc l - field_of (with_field end.tsiz DIEPTSIZ_COUNT (c - 1)) DIEPTSIZ_COUNT) ps) ≡ packets =
    ap (λ k. take k (drop (suc l - k) ps)) down ∙ ap (take r) is.next ∙ is.behind in
    record {
      abstract =
          ap (λ k. Made (pipe.Running s.bytes (drop (suc l - k) ps)) k (flipped end.toggle)) down
          ∙ ap (λ left. Made (pipe.Running s.bytes left) r (flipped end.toggle)) is.next
          ∙ sym (ap (λ left. Made (pipe.without_packet (pipe.Running s.bytes left)) (c - 1) (flipped end.toggle)) is.left
          ∙ ap (λ k. Made (pipe.Running s.bytes others) k (flipped end.toggle)) one);
      stands = record {
        kept = st.kept;
        stall = st.stall;
        enabled = ap (λ x. x && not (c - 1 == 0)) (st.enabled ∙ ap is_some_of is.count) ∙ ap not zero_is ∙ not_not (is_some_of r) ∙ sym (ap is_some_of down);
        nak = st.nak;
        xfrc =
            ap (λ x. x || (c - 1 == 0)) (st.xfrc ∙ ap (λ k. true && not (is_some_of k)) is.count)
            ∙ zero_is ∙ sym (ap (λ k. true && not (is_some_of k)) down);
        epdisd = st.epdisd;
        count = omega (arith, down);
        size = subst (λ z. IsSized z (ready_packets (record j { end = in_acked (suc n) end }))) (sym same) (subst (IsSized (field_of end.tsiz DIEPTSIZ_SIZE)) (sym ready) sent.sized);
        fifo =
            ap (λ tx. acked_by c (field_of end.tsiz DIEPTSIZ_SIZE) tx) fifo
            ∙ ap (λ k. acked_by k (field_of end.tsiz DIEPTSIZ_SIZE) (fifo_of (packet ∷ packets))) is.count
            ∙ sent.acked ∙ sym (ap fifo_of ready);
        holds = st.holds;
        bytes = st.bytes;
      };
    }

sent_or_not : (n : ℕ) (j : InJoint) (ok : Bool) (packet : List ℕ) → InStands (suc n) j → pipe.in_answer (abstract_in j) ≡ answers.Data j.end.toggle packet
    → InIs (suc n) (record j { end = in_acked (suc n) j.end }) (pipe.after_answer (abstract_in j) (answers.Data j.end.toggle packet))
    → InIs (suc n) (record j { end = end_after (suc n) j.end ok (sends packet) }) (pipe.after_token (abstract_in j) ok)
sent_or_not n j true packet st answer i = subst (λ a. InIs (suc n) (record j { end = in_acked (suc n) j.end }) (pipe.after_answer (abstract_in j) a)) (sym answer) i
sent_or_not n j false packet st answer i = record { abstract = refl; stands = st }

token_sends : (n : ℕ) (end : InEnd) (s : InEndpoint) (ring : List ℕ) (l r : ℕ) (ok : Bool) (packet : List ℕ) (packets others : List (List ℕ)) → InStands (suc n) (running end s ring (suc l)) → s.halted ≡ false
    → IsReady (running end s ring (suc l)) l r packet packets others → TokenKeeps (suc n) (running end s ring (suc l)) ok
token_sends n end s ring l r ok packet packets others st open_is is =
    let j = running end s ring (suc l) in
    let c = end.control in
    let h : IsTransfer j.software ring = st.holds in
    let size = field_of end.tsiz DIEPTSIZ_SIZE in
    let ready : ready_packets j ≡ packet ∷ packets =
    ap (λ k. take k (drop (suc l - field_of end.tsiz DIEPTSIZ_COUNT) (packets_left s ring))) is.count ∙ ap (take (suc r)) is.left ∙ ap (λ ps. packet ∷ ps) is.behind in
    let fifo : end.fifo ≡ fifo_of (packet ∷ packets) = st.fifo ∙ ap fifo_of ready in
    let sent : Sends size r packet packets = sends_packet size r packet packets is.long (subst (IsSized size) ready st.size) in
    let found : packet_ready (suc n) end ≡ Some packet =
    ap (λ k. ready_by k size end.fifo) is.count ∙ ap (ready_by (suc r) size) fifo ∙ sent.ready in
    let outcome : token_outcome (suc n) end ≡ sends packet =
    ap (λ k. outcome_by (flag k DIEPCTL_USBAEP) c.stall c.enabled c.nak (packet_ready (suc n) end)) st.kept
    ∙ ap (λ f. outcome_by (f == 1) c.stall c.enabled c.nak (packet_ready (suc n) end)) (open_flag (suc n) s.endpoint h.opened.most)
    ∙ ap (λ x. outcome_by true x c.enabled c.nak (packet_ready (suc n) end)) (st.stall ∙ ap (λ x. x && not (is_core s.endpoint.owner)) open_is)
    ∙ ap (λ x. outcome_by true false x c.nak (packet_ready (suc n) end)) (st.enabled ∙ ap is_some_of is.count)
    ∙ ap (λ x. outcome_by true false true x (packet_ready (suc n) end)) (st.nak refl)
    ∙ ap sends_of found in
    let p = abstract_in j in
    let answer : pipe.in_answer p ≡ answers.Data end.toggle packet =
    ap (λ x. if x then answers.Stall else pipe.sent end.toggle (pipe.next_packet p.phase p.loaded)) open_is
    ∙ ap (λ left. pipe.sent end.toggle (pipe.next_packet (pipe.Running s.bytes left) p.loaded)) is.left
    ∙ ap (λ k. pipe.sent end.toggle (pipe.next_packet (pipe.Running s.bytes (packet ∷ others)) k)) is.count in
    by_outcome n j ok (sends packet) outcome
    (sym (ap (λ x. answer_for x p) h.class ∙ answer))
    (sent_or_not n j ok packet st answer (acked n end s ring l r packet packets others st is sent fifo))

-- a transfer that runs

stalled_outcome : (n : ℕ) (end : InEnd) (s : InEndpoint) (ring : List ℕ) (l : ℕ) → InStands (suc n) (running end s ring l) → s.halted ≡ true → token_outcome (suc n) end ≡ stalls_in
stalled_outcome n end s ring l st halt =
    let c = end.control in
    let h : IsTransfer (record s { state = Running; loaded = l }) ring = st.holds in
    ap (λ k. outcome_by (flag k DIEPCTL_USBAEP) c.stall c.enabled c.nak (packet_ready (suc n) end)) st.kept
    ∙ ap (λ f. outcome_by (f == 1) c.stall c.enabled c.nak (packet_ready (suc n) end)) (open_flag (suc n) s.endpoint h.opened.most)
    ∙ ap (λ x. outcome_by true x c.enabled c.nak (packet_ready (suc n) end)) (st.stall ∙ ap (λ x. x && not (is_core s.endpoint.owner)) halt ∙ ap not h.class)

token_stalled : (n : ℕ) (end : InEnd) (s : InEndpoint) (ring : List ℕ) (l : ℕ) (ok : Bool) → InStands (suc n) (running end s ring l) → s.halted ≡ true → TokenKeeps (suc n) (running end s ring l) ok
token_stalled n end s ring l ok st halt =
    let j = running end s ring l in
    let p = abstract_in j in
    let h : IsTransfer j.software ring = st.holds in
    let answer : pipe.in_answer p ≡ answers.Stall = ap (λ x. if x then answers.Stall else pipe.sent end.toggle (pipe.next_packet p.phase p.loaded)) halt in
    by_outcome n j ok stalls_in (stalled_outcome n end s ring l st halt)
    (sym (ap (λ x. answer_for x p) h.class ∙ answer))
    (record { abstract = sym (stays p ok answers.Stall answer refl); stands = st })

none_next : (n : ℕ) (left : List (List ℕ)) (loaded : ℕ) → loaded ≡ 0 → pipe.next_packet (pipe.Running n left) loaded ≡ None
none_next n left zero e = refl
none_next n left (suc loaded) e = absurd (omega arith)

token_waits : (n : ℕ) (end : InEnd) (s : InEndpoint) (ring : List ℕ) (l : ℕ) (ok : Bool) → InStands (suc n) (running end s ring l) → s.halted ≡ false → ready_count end (record s { loaded = l }) ≡ 0 → TokenKeeps (suc n) (running end s ring l) ok
token_waits n end s ring l ok st open_is none =
    let j = running end s ring l in
    let p = abstract_in j in
    let c = end.control in
    let h : IsTransfer j.software ring = st.holds in
    let outcome : token_outcome (suc n) end ≡ naks_in =
    ap (λ k. outcome_by (flag k DIEPCTL_USBAEP) c.stall c.enabled c.nak (packet_ready (suc n) end)) st.kept
    ∙ ap (λ f. outcome_by (f == 1) c.stall c.enabled c.nak (packet_ready (suc n) end)) (open_flag (suc n) s.endpoint h.opened.most)
    ∙ ap (λ x. outcome_by true x c.enabled c.nak (packet_ready (suc n) end)) (st.stall ∙ ap (λ x. x && not (is_core s.endpoint.owner)) open_is)
    ∙ ap (λ x. outcome_by true false x c.nak (packet_ready (suc n) end)) (st.enabled ∙ ap is_some_of none) in
    let answer : pipe.in_answer p ≡ answers.Nak =
    ap (λ x. if x then answers.Stall else pipe.sent end.toggle (pipe.next_packet p.phase p.loaded)) open_is
    ∙ ap (pipe.sent end.toggle) (none_next s.bytes _ p.loaded none) in
    by_outcome n j ok naks_in outcome
    (sym (ap (λ x. answer_for x p) h.class ∙ answer))
    (record { abstract = sym (stays p ok answers.Nak answer refl); stands = st })

token_counted : (n : ℕ) (end : InEnd) (s : InEndpoint) (ring : List ℕ) (l k : ℕ) (ok : Bool) → InStands (suc n) (running end s ring (suc l)) → s.halted ≡ false → field_of end.tsiz DIEPTSIZ_COUNT ≡ k → TokenKeeps (suc n) (running end s ring (suc l)) ok
token_counted n end s ring l zero ok st open_is count = token_waits n end s ring (suc l) ok st open_is count
token_counted n end s ring l (suc r) ok st open_is count =
    let h : IsTransfer (record s { state = Running; loaded = suc l }) ring = st.holds in
    let few = st.count in
    let ps = packets_left s ring in
    token_sends n end s ring l r ok (get_or ps (l - r) []) (take r (drop (l - r + 1) ps)) (drop (l - r + 1) ps) st open_is
    (is_ready end (record s { state = Running }) ring l r h.load h.left (omega (arith, few, count)) count)

token_by_loaded : (n : ℕ) (end : InEnd) (s : InEndpoint) (ring : List ℕ) (l : ℕ) (ok : Bool) → InStands (suc n) (running end s ring l) → s.halted ≡ false → TokenKeeps (suc n) (running end s ring l) ok
token_by_loaded n end s ring zero ok st open_is = token_waits n end s ring 0 ok st open_is refl
token_by_loaded n end s ring (suc l) ok st open_is = token_counted n end s ring l (field_of end.tsiz DIEPTSIZ_COUNT) ok st open_is refl

token_by_halt : (n : ℕ) (end : InEnd) (s : InEndpoint) (ring : List ℕ) (halted : Bool) (ok : Bool) → InStands (suc n) (joint end s ring Running) → s.halted ≡ halted → TokenKeeps (suc n) (joint end s ring Running) ok
token_by_halt n end s ring true ok st e = token_stalled n end s ring s.loaded ok st e
token_by_halt n end s ring false ok st e = token_by_loaded n end s ring s.loaded ok st e

token_by : (n : ℕ) (end : InEnd) (s : InEndpoint) (ring : List ℕ) (state : InState) (ok : Bool) → InStands (suc n) (joint end s ring state) → TokenKeeps (suc n) (joint end s ring state) ok
token_by n end s ring Closed ok st = token_closed n end s ring ok st
token_by n end s ring Rest ok st = token_rest n end s ring ok st
token_by n end s ring Running ok st = token_by_halt n end s ring s.halted ok st refl
token_by n end s ring Posted ok st = token_posted n end s ring ok st

pub tokens : (n : ℕ) (j : InJoint) (ok : Bool) → InStands (suc n) j → TokenKeeps (suc n) j ok
tokens n j ok st = token_by n j.end j.software j.ring j.software.state ok st

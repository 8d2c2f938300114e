-- A handler run at an IN endpoint.
use Rattle.std.proofs.Common.{◌≡◌, ℕ, zero, suc, ◌+◌, ◌-◌, ◌*◌, ◌≤◌, List, [], ◌∷◌, ◌++◌, length, take, drop, min, Bool, true, false, refl, ap, ◌∙◌, sym, arith, subst, length-take, length-take-le, length-drop, drop-drop, append-nil, length-append}
use Rattle.std.specs.Prelude.{◌&&◌, not, if◌then◌else◌}
use Rattle.std.specs.List.{concat}
use Rattle.std.proofs.lemmas.List.{drop_min, take_min}
use Rattle.usb_packet.specs.declared.bus.Toggle.{Toggle}
use Rattle.dwc2_regs.specs.declared.TheConstants.{DIEPTSIZ_SIZE, DIEPTSIZ_COUNT, DIEPINT_XFRC, DIEPINT_EPDISD, DIEPINT_TXFE}
use Rattle.dwc2_regs.specs.Field.{field_of}
use Rattle.device_table.specs.State.{InEnd, Control}
use Rattle.device_table.specs.Words.{flag, with_flag}
use Rattle.device_table.specs.Read.{txfe}
use Rattle.device_pipe.specs.InPipe as pipe
use Rattle.device_pipe.specs.InPipe.{InPipe, InPhase, most_loaded}
use Rattle.endpoint_relation.specs.declared.in_.InState.{InState}
use Rattle.endpoint_relation.specs.declared.in_.InState.TheVariants.{Closed, Rest, Running, Posted}
use Rattle.endpoint_relation.specs.declared.in_.InEndpoint.{InEndpoint}
use Rattle.endpoint_relation.specs.InWords.{in_open_bits, in_size_word}
use Rattle.endpoint_relation.specs.InRelation.{InJoint, InStands, IsTransfer, IsLoad, IsSized, abstract_in, stalls, bytes_left, packets_if, packets_left, ready_if, ready_packets, is_some_of, fifo_of}
use Rattle.endpoint_relation.specs.InSteps.{in_served, in_next, in_goes_on, in_found, in_finished, in_loaded, shows_xfrc, end_loaded}
use Rattle.endpoint_relation.specs.InLaws.{InIs}
use Rattle.endpoint_relation.proofs.InCut.{Batch, empty, last, two, rest_left, first_left}
use Rattle.endpoint_relation.proofs.InLoad.{LoadsAs, loads, AllBytes, packets_bytes, first_bytes, take_bytes, drop_bytes, batch_count}
use Rattle.endpoint_relation.proofs.InIdle.{Idle, idle_stands, stands_idle, and_none}
use Rattle.endpoint_relation.proofs.InCalls.{joint}
use Rattle.endpoint_relation.proofs.InToken.{running}

-- DIEPINTx shows XFRC

shows : (x e t : Bool) → flag (with_flag (with_flag (with_flag 0 DIEPINT_XFRC x) DIEPINT_EPDISD e) DIEPINT_TXFE t) DIEPINT_XFRC ≡ x
shows true true true = refl
shows true true false = refl
shows true false true = refl
shows true false false = refl
shows false true true = refl
shows false true false = refl
shows false false true = refl
shows false false false = refl

pub xfrc_shows : (number : ℕ) (end : InEnd) → shows_xfrc number end ≡ end.xfrc
xfrc_shows number end = shows end.xfrc end.epdisd (txfe number end)

-- all that was loaded is acknowledged

pub found_packets : (s : InEndpoint) (ring : List ℕ) (l : ℕ) → IsTransfer (record s { state = Running; loaded = suc l }) ring
    → packets_left (record s { state = Running; loaded = 0; sent = min s.bytes (s.sent + suc l * s.endpoint.size); left = s.left - suc l }) ring ≡ drop (suc l) (packets_left s ring)
found_packets s ring l h =
    let size = s.endpoint.size in
    let all = take s.bytes ring in
    let long : length all ≡ s.bytes = length-take-le s.bytes ring h.within in
    let load : suc l ≡ min 2 s.left = h.load in
    let bound : min s.bytes (s.sent + suc l * size) ≡ min (s.sent + suc l * size) (length all) = omega (arith, long) in
    let at : drop (min s.bytes (s.sent + suc l * size)) all ≡ drop (suc l * size) (drop s.sent all) =
    ap (λ k. drop k all) bound ∙ drop_min (s.sent + suc l * size) all ∙ sym (drop-drop (suc l * size) s.sent all) in
    ap (packets_if (s.left - suc l) size) at
    ∙ sym (ap (λ k. drop k (packets_left s ring)) load ∙ rest_left s.left size (bytes_left s ring) h.opened.least h.left
    ∙ ap (λ k. packets_if (s.left - k) size (drop (k * size) (bytes_left s ring))) (sym load))

found : (n : ℕ) (end : InEnd) (s : InEndpoint) (ring : List ℕ) (l : ℕ) → InStands (suc n) (running end s ring (suc l)) → field_of end.tsiz DIEPTSIZ_COUNT ≡ 0
    → InIs (suc n) (in_found (running end s ring (suc l))) (abstract_in (running end s ring (suc l)))
found n end s ring l st none =
    let j = running end s ring (suc l) in
    let h : IsTransfer j.software ring = st.holds in
    let ps = packets_left s ring in
    let c = field_of end.tsiz DIEPTSIZ_COUNT in
    let same = found_packets s ring l h in
    let whole : suc l - 0 ≡ suc l = omega arith in
    let Made : List (List ℕ) → ℕ → InPipe = λ left loaded. record { queue = ring; phase = pipe.Running s.bytes left; loaded = loaded; toggle = end.toggle; halted = s.halted } in
    record {
      abstract = ap (λ left. Made left 0) same ∙ sym (ap (λ k. Made (drop (suc l - k) ps) k) none ∙ ap (λ k. Made (drop k ps) 0) whole);
      stands = idle_stands (suc n) (in_found j) (record {
        kept = st.kept;
        stall = st.stall;
        enabled = st.enabled ∙ ap is_some_of none;
        xfrc = and_none end.xfrc;
        epdisd = ap (λ x. x && true) st.epdisd;
        fifo = st.fifo ∙ ap (λ k. fifo_of (take k (drop (suc l - k) ps))) none;
        load = refl;
        holds = record {
          opened = h.opened;
          class = h.class;
          within = h.within;
          sent = omega arith;
          left = ap (λ k. k - suc l) h.left ∙ sym (ap length same ∙ length-drop (suc l) ps);
          load = tt;
        };
        bytes = st.bytes;
      });
    }

-- the next packets are loaded, or the transfer ends

finished : (n : ℕ) (end : InEnd) (s : InEndpoint) (ring : List ℕ) → InStands (suc n) (running end (record s { left = 0 }) ring 0)
    → InIs (suc n) (in_finished (running end (record s { left = 0 }) ring 0)) (pipe.after_irq (abstract_in (running end (record s { left = 0 }) ring 0)))
finished n end s ring st =
    let j = running end (record s { left = 0 }) ring 0 in
    let h : IsTransfer j.software ring = st.holds in
    let i : Idle (suc n) j = stands_idle (suc n) j st refl in
    record {
      abstract = refl;
      stands = idle_stands (suc n) (in_finished j) (record {
        kept = i.kept;
        stall = i.stall;
        enabled = i.enabled;
        xfrc = i.xfrc;
        epdisd = i.epdisd;
        fifo = i.fifo;
        load = refl;
        holds = record { opened = h.opened; class = h.class; load = refl };
        bytes = drop_bytes s.bytes ring st.bytes;
      });
    }

ready_some : (l c : ℕ) → 1 ≤ l → ready_if l c ≡ c
ready_some zero c h = absurd (omega arith)
ready_some (suc l) c h = refl

is_some : (k : ℕ) → 1 ≤ k → is_some_of k ≡ true
is_some zero h = absurd (omega arith)
is_some (suc k) h = refl

load_is : (m left : ℕ) → m ≡ min most_loaded left → IsLoad m left
load_is zero left h = tt
load_is (suc m) left h = h

served_some : (p : InPipe) (n : ℕ) (ps : List (List ℕ)) → 1 ≤ length ps → pipe.served p (pipe.Running n ps) ≡ record p { loaded = pipe.load p.loaded ps }
served_some p n [] h = absurd (omega arith)
served_some p n (packet ∷ ps) h = refl

total_of : (size : ℕ) {packets : List (List ℕ)} → Batch size packets → size ≤ 64 → length (concat packets) ≤ 128
total_of size empty most = omega arith
total_of size (last a some few) most = let e = ap length (append-nil a) in omega (arith, e)
total_of size (two a b full some few) most =
    let e = length-append a (b ++ []) ∙ ap (λ bs. length a + length bs) (append-nil b) in omega (arith, e)

sized_last : (a : List ℕ) → 1 ≤ length a → IsSized (length (concat (a ∷ []))) (a ∷ [])
sized_last [] h = absurd (omega arith)
sized_last (x ∷ xs) h = (omega arith, tt)

sized_two : (a b : List ℕ) → 1 ≤ length a → 1 ≤ length b → IsSized (length (concat (a ∷ b ∷ []))) (a ∷ b ∷ [])
sized_two [] b h k = absurd (omega arith)
sized_two (x ∷ xs) [] h k = absurd (omega arith)
sized_two (x ∷ xs) (y ∷ ys) h k = (omega arith, (omega arith, tt))

sized_batch : (size : ℕ) {packets : List (List ℕ)} → 1 ≤ size → Batch size packets → IsSized (length (concat packets)) packets
sized_batch size one empty = (refl, refl)
sized_batch size one (last a some few) = sized_last a some
sized_batch size one (two a b full some few) = sized_two a b (omega arith) some

count_of : (k total : ℕ) → k ≤ 2 → total ≤ 128 → field_of (in_size_word k total) DIEPTSIZ_COUNT ≡ k
count_of k total h l = omega arith

size_of : (k total : ℕ) → k ≤ 2 → total ≤ 128 → field_of (in_size_word k total) DIEPTSIZ_SIZE ≡ total
size_of k total h l = omega arith

next_loaded : (n : ℕ) (end : InEnd) (s : InEndpoint) (ring : List ℕ) (left : ℕ) → suc n ≤ 15 → InStands (suc n) (running end (record s { left = suc left }) ring 0)
    → InIs (suc n) (in_loaded (suc n) (running end (record s { left = suc left }) ring 0)) (pipe.after_irq (abstract_in (running end (record s { left = suc left }) ring 0)))
next_loaded n end s ring left small st =
    let j = running end (record s { left = suc left }) ring 0 in
    let h : IsTransfer j.software ring = st.holds in
    let i : Idle (suc n) j = stands_idle (suc n) j st refl in
    let e = s.endpoint in
    let ps = packets_left j.software ring in
    let packets = take 2 ps in
    let batch : Batch e.size packets = first_left (suc left) e.size (bytes_left s ring) h.opened.least (omega arith) in
    let below : AllBytes packets = first_bytes 2 ps (packets_bytes (suc left) e.size (bytes_left s ring) (drop_bytes s.sent (take s.bytes ring) (take_bytes s.bytes ring st.bytes))) in
    let new : InEnd = end_loaded (suc n) j.software packets end in
    let is : LoadsAs end new (in_open_bits (suc n) e) (stalls s) packets = loads n j.software end packets small h.opened.least h.opened.most batch below i.fifo in
    let total = length (concat packets) in
    let m = min 2 (suc left) in
    let few : length packets ≤ 2 = batch_count e.size batch in
    let small_total : total ≤ 128 = total_of e.size batch h.opened.most in
    let long : length packets ≡ m = length-take 2 ps ∙ ap (min 2) (sym h.left) in
    let ready : ready_if m (field_of new.tsiz DIEPTSIZ_COUNT) ≡ m =
    ready_some m (field_of new.tsiz DIEPTSIZ_COUNT) (omega arith) ∙ ap (λ w. field_of w DIEPTSIZ_COUNT) is.tsiz ∙ count_of (length packets) total few small_total ∙ long in
    let sized : field_of new.tsiz DIEPTSIZ_SIZE ≡ total = ap (λ w. field_of w DIEPTSIZ_SIZE) is.tsiz ∙ size_of (length packets) total few small_total in
    let none : m - m ≡ 0 = omega arith in
    let all : drop (m - ready_if m (field_of new.tsiz DIEPTSIZ_COUNT)) ps ≡ ps = ap (λ k. drop (m - k) ps) ready ∙ ap (λ k. drop k ps) none in
    let first : take (ready_if m (field_of new.tsiz DIEPTSIZ_COUNT)) (drop (m - ready_if m (field_of new.tsiz DIEPTSIZ_COUNT)) ps) ≡ packets =
    ap (take (ready_if m (field_of new.tsiz DIEPTSIZ_COUNT))) all ∙ ap (λ k. take k ps) (ready ∙ ap (min 2) h.left) ∙ take_min 2 ps in
    let lit : is_some_of (ready_if m (field_of new.tsiz DIEPTSIZ_COUNT)) ≡ true = ap is_some_of ready ∙ is_some m (omega arith) in
    let Made : List (List ℕ) → ℕ → Toggle → InPipe = λ left loaded toggle. record { queue = ring; phase = pipe.Running s.bytes left; loaded = loaded; toggle = toggle; halted = s.halted } in
    record {
      abstract =
          ap (λ qs. Made qs (ready_if m (field_of new.tsiz DIEPTSIZ_COUNT)) new.toggle) all
          ∙ ap (λ k. Made ps k new.toggle) (ready ∙ ap (min 2) h.left)
          ∙ ap (Made ps (min 2 (length ps))) is.toggle
          ∙ sym (served_some (abstract_in j) s.bytes ps (let len = h.left in omega (arith, len)));
      stands = record {
        kept = ap (λ (c : Control). c.kept) is.control;
        stall = ap (λ (c : Control). c.stall) is.control;
        enabled = ap (λ (c : Control). c.enabled) is.control ∙ sym lit;
        nak = λ _. ap (λ (c : Control). c.nak) is.control;
        xfrc = is.xfrc ∙ i.xfrc ∙ sym (ap (λ b. is_some_of m && not b) lit ∙ and_none (is_some_of m));
        epdisd = is.epdisd ∙ i.epdisd;
        count = omega (arith, ready);
        size = subst (λ z. IsSized z (ready_packets (in_loaded (suc n) j))) (sym sized) (subst (IsSized total) (sym first) (sized_batch e.size h.opened.least batch));
        fifo = is.fifo ∙ sym (ap fifo_of first);
        holds = record { opened = h.opened; class = h.class; within = h.within; sent = h.sent; left = h.left; load = load_is m (suc left) refl };
        bytes = st.bytes;
      };
    }

goes_on_by : (n : ℕ) (end : InEnd) (s : InEndpoint) (ring : List ℕ) (left : ℕ) → suc n ≤ 15 → InStands (suc n) (running end (record s { left = left }) ring 0)
    → InIs (suc n) (in_goes_on left (suc n) (running end (record s { left = left }) ring 0)) (pipe.after_irq (abstract_in (running end (record s { left = left }) ring 0)))
goes_on_by n end s ring zero small st = finished n end s ring st
goes_on_by n end s ring (suc left) small st = next_loaded n end s ring left small st

goes_on : (n : ℕ) (end : InEnd) (s : InEndpoint) (ring : List ℕ) → suc n ≤ 15 → InStands (suc n) (running end s ring 0)
    → InIs (suc n) (in_next (suc n) (running end s ring 0)) (pipe.after_irq (abstract_in (running end s ring 0)))
goes_on n end s ring small st = goes_on_by n end s ring s.left small st

-- packets lie ready

waits : (n : ℕ) (end : InEnd) (s : InEndpoint) (ring : List ℕ) (l r : ℕ) → InStands (suc n) (running end s ring (suc l)) → field_of end.tsiz DIEPTSIZ_COUNT ≡ suc r
    → InIs (suc n) (running end s ring (suc l)) (pipe.after_irq (abstract_in (running end s ring (suc l))))
waits n end s ring l r st count =
    let j = running end s ring (suc l) in
    let h : IsTransfer j.software ring = st.holds in
    let ps = packets_left s ring in
    let c = field_of end.tsiz DIEPTSIZ_COUNT in
    let left = drop (suc l - c) ps in
    let load : suc l ≡ min 2 s.left = h.load in
    let some : 1 ≤ length left =
    let few = st.count in let len = length-drop (suc l - c) ps in let all = h.left in omega (arith, few, len, all, count, load) in
    let Made : ℕ → InPipe = λ k. record (abstract_in j) { loaded = k } in
    record {
      abstract = sym (served_some (abstract_in j) s.bytes left some ∙ ap (λ k. Made (pipe.load k left)) count ∙ sym (ap Made count));
      stands = st;
    }

by_count : (n : ℕ) (end : InEnd) (s : InEndpoint) (ring : List ℕ) (l k : ℕ) → suc n ≤ 15 → InStands (suc n) (running end s ring (suc l)) → field_of end.tsiz DIEPTSIZ_COUNT ≡ k
    → InIs (suc n) (if shows_xfrc (suc n) end then in_next (suc n) (in_found (running end s ring (suc l))) else running end s ring (suc l)) (pipe.after_irq (abstract_in (running end s ring (suc l))))
by_count n end s ring l zero small st count =
    let j = running end s ring (suc l) in
    let lit : shows_xfrc (suc n) end ≡ true = xfrc_shows (suc n) end ∙ st.xfrc ∙ ap (λ k. true && not (is_some_of k)) count in
    let f : InIs (suc n) (in_found j) (abstract_in j) = found n end s ring l st count in
    let all : InIs (suc n) (in_next (suc n) (in_found j)) (pipe.after_irq (abstract_in (in_found j))) = goes_on n (in_found j).end (in_found j).software ring small f.stands in
    subst (λ b. InIs (suc n) (if b then in_next (suc n) (in_found j) else j) (pipe.after_irq (abstract_in j))) (sym lit)
    (subst (λ p. InIs (suc n) (in_next (suc n) (in_found j)) (pipe.after_irq p)) f.abstract all)
by_count n end s ring l (suc r) small st count =
    let j = running end s ring (suc l) in
    let dark : shows_xfrc (suc n) end ≡ false = xfrc_shows (suc n) end ∙ st.xfrc ∙ ap (λ k. true && not (is_some_of k)) count in
    subst (λ b. InIs (suc n) (if b then in_next (suc n) (in_found j) else j) (pipe.after_irq (abstract_in j))) (sym dark) (waits n end s ring l r st count)

served_running : (n : ℕ) (end : InEnd) (s : InEndpoint) (ring : List ℕ) (l : ℕ) → suc n ≤ 15 → InStands (suc n) (running end s ring l)
    → InIs (suc n) (in_served (suc n) (running end s ring l)) (pipe.after_irq (abstract_in (running end s ring l)))
served_running n end s ring zero small st = goes_on n end s ring small st
served_running n end s ring (suc l) small st = by_count n end s ring l (field_of end.tsiz DIEPTSIZ_COUNT) small st refl

served_by : (n : ℕ) (end : InEnd) (s : InEndpoint) (ring : List ℕ) (state : InState) → suc n ≤ 15 → InStands (suc n) (joint end s ring state)
    → InIs (suc n) (in_served (suc n) (joint end s ring state)) (pipe.after_irq (abstract_in (joint end s ring state)))
served_by n end s ring Closed small st = record { abstract = refl; stands = st }
served_by n end s ring Rest small st = record { abstract = refl; stands = st }
served_by n end s ring Posted small st = record { abstract = refl; stands = st }
served_by n end s ring Running small st = served_running n end s ring s.loaded small st

pub serves : (n : ℕ) (j : InJoint) → suc n ≤ 15 → InStands (suc n) j → InIs (suc n) (in_served (suc n) j) (pipe.after_irq (abstract_in j))
serves n j small st = served_by n j.end j.software j.ring j.software.state small st

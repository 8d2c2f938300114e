-- A halt and a write of an open endpoint, and its opening.
use Rattle.std.proofs.Common.{◌≡◌, ℕ, zero, suc, ◌-◌, ◌<◌, ◌≤◌, List, [], ◌∷◌, ◌++◌, length, get_or, take, drop, Bool, true, false, refl, ap, ◌∙◌, sym, arith, subst, length-append}
use Rattle.std.specs.Prelude.{◌||◌, ◌&&◌, not, if◌then◌else◌}
use Rattle.std.proofs.lemmas.List.{take-append-le}
use Rattle.usb_packet.specs.declared.bus.Toggle.{Toggle}
use Rattle.usb_packet.specs.declared.bus.Toggle.TheVariants.{D0}
use Rattle.usb_descriptor.specs.declared.endpoint.Endpoint.{Endpoint}
use Rattle.usb_descriptor.specs.Set.{is_core}
use Rattle.dwc2_regs.specs.declared.TheConstants.{DIEPCTL_SD0PID, DIEPCTL_EPDIS, DIEPTSIZ_SIZE}
use Rattle.dwc2_regs.specs.Field.{field_of}
use Rattle.device_table.specs.State.{Control}
use Rattle.device_table.specs.Words.{flag}
use Rattle.device_table.specs.Write.{in_control_written}
use Rattle.device_pipe.specs.InPipe as pipe
use Rattle.device_pipe.specs.InPipe.{InPipe, InPhase, is_closed}
use Rattle.endpoint_relation.specs.declared.in_.InState.{InState}
use Rattle.endpoint_relation.specs.declared.in_.InState.TheVariants.{Closed, Rest, Running, Posted}
use Rattle.endpoint_relation.specs.declared.in_.InEndpoint.{InEndpoint}
use Rattle.endpoint_relation.specs.InWords.{in_open_bits, in_snak_sd0pid}
use Rattle.endpoint_relation.specs.InRelation.{InJoint, InStands, Holds, IsOpened, abstract_in, stalls, in_phase, in_toggle, packets_if, packets_left, ready_count, ready_if, IsSized, fifo_of}
use Rattle.endpoint_relation.specs.InSteps.{in_halted, in_written, in_opened, control_with, software_halted, software_opened, end_halted}
use Rattle.endpoint_relation.specs.InLaws.{InIs, IsOpenIn, IsClosedIn}
use Rattle.endpoint_relation.proofs.InControl.{control_is, nothing_is, snak_sd0pid_is, leaves_toggle, leaves_enabled, or_false, sets_toggle}
use Rattle.endpoint_relation.proofs.InLoad.{AreBytes, take_bytes}
use Rattle.endpoint_relation.proofs.InIdle.{Idle, idle_stands, stands_idle, and_none}
use Rattle.endpoint_relation.proofs.InCalls.{opened_of, kept_of}

-- a halt

halted_holds : (state : InState) (s : InEndpoint) (ring : List ℕ) (n : ℕ) (left : List (List ℕ)) → is_closed (in_phase state n left) ≡ false → Holds state s ring → Holds state (software_halted s) ring
halted_holds Closed s ring n left e h = cc
halted_holds Rest s ring n left e h = record { opened = h.opened; load = h.load }
halted_holds Running s ring n left e h = record { opened = h.opened; class = h.class; within = h.within; sent = h.sent; left = h.left; load = h.load }
halted_holds Posted s ring n left e h = record { opened = h.opened; class = h.class; load = h.load }

halted_by : (n : ℕ) (j : InJoint) (core : Bool) → is_core j.software.endpoint.owner ≡ core → suc n ≤ 15 → IsOpenIn j → InStands (suc n) j
    → InIs (suc n) (record j { end = end_halted core (suc n) (software_halted j.software) j.end; software = software_halted j.software }) (pipe.halted_ (abstract_in j))
halted_by n j true e small op st =
    let s = j.software in
    record {
      abstract = refl;
      stands = record {
        kept = st.kept;
        stall = st.stall ∙ ap (λ c. s.halted && not c) e ∙ and_none s.halted ∙ sym (ap (λ c. true && not c) e);
        enabled = st.enabled;
        nak = st.nak;
        xfrc = st.xfrc;
        epdisd = st.epdisd;
        count = st.count;
        size = st.size;
        fifo = st.fifo;
        holds = halted_holds s.state s j.ring s.bytes _ op st.holds;
        bytes = st.bytes;
      };
    }
halted_by n j false e small op st =
    let s = j.software in
    let new = software_halted s in
    let opened : IsOpened s.endpoint = opened_of s.state s j.ring s.bytes _ op st.holds in
    let control : (in_control_written true j.end (control_with (suc n) new 0)).control ≡ control_is (in_open_bits (suc n) s.endpoint) j.end.control.nak (stalls new) j.end.control.enabled =
    nothing_is (suc n) s.endpoint (stalls new) j.end.control opened.most small in
    let stays : flag (control_with (suc n) new 0) DIEPCTL_EPDIS ≡ false = leaves_enabled (suc n) s.endpoint (stalls new) false false false false 0 opened.most small refl in
    let data0 : flag (control_with (suc n) new 0) DIEPCTL_SD0PID ≡ false = leaves_toggle (suc n) s.endpoint (stalls new) false false false false 0 opened.most small refl in
    record {
      abstract = ap (λ f. record (pipe.halted_ (abstract_in j)) { toggle = in_toggle s.state (if f then D0 else j.end.toggle) }) data0;
      stands = record {
        kept = ap (λ (c : Control). c.kept) control ∙ sym (kept_of s.state (suc n) s.endpoint s.bytes _ op);
        stall = ap (λ (c : Control). c.stall) control;
        enabled = ap (λ (c : Control). c.enabled) control ∙ st.enabled;
        nak = λ h. ap (λ (c : Control). c.nak) control ∙ st.nak h;
        xfrc = st.xfrc;
        epdisd = ap (λ b. j.end.epdisd || b) stays ∙ or_false j.end.epdisd ∙ st.epdisd;
        count = st.count;
        size = st.size;
        fifo = st.fifo;
        holds = halted_holds s.state s j.ring s.bytes _ op st.holds;
        bytes = st.bytes;
      };
    }

pub halts : (n : ℕ) (j : InJoint) → suc n ≤ 15 → IsOpenIn j → InStands (suc n) j → InIs (suc n) (in_halted (suc n) j) (pipe.halted_ (abstract_in j))
halts n j small op st = halted_by n j (is_core j.software.endpoint.owner) refl small op st

-- a write

behind : (bytes more : List ℕ) (i : ℕ) → AreBytes bytes → AreBytes more → get_or (bytes ++ more) i 0 < 256
behind [] more i h k = k i
behind (b ∷ bytes) more zero h k = h 0
behind (b ∷ bytes) more (suc i) h k = behind bytes more i (λ x. h (suc x)) k

-- the transfer's bytes are the front of the ring
left_same : (s : InEndpoint) (ring more : List ℕ) → s.bytes ≤ length ring → packets_left s (ring ++ more) ≡ packets_left s ring
left_same s ring more h = ap (λ bytes. packets_if s.left s.endpoint.size (drop s.sent bytes)) (take-append-le s.bytes ring more h)

pub record SameLeft (s : InEndpoint) (state : InState) (ring more : List ℕ) (gone count : ℕ) : Type 0 where
  phase : in_phase state s.bytes (drop gone (packets_left s (ring ++ more))) ≡ in_phase state s.bytes (drop gone (packets_left s ring))
  ready : take count (drop gone (packets_left s (ring ++ more))) ≡ take count (drop gone (packets_left s ring))
  holds : Holds state s (ring ++ more)

no_ready : (count : ℕ) (a b : List (List ℕ)) → count ≡ 0 → take count a ≡ take count b
no_ready count a b h = ap (λ n. take n a) h ∙ sym (ap (λ n. take n b) h)

none_if : (l count : ℕ) → l ≡ 0 → ready_if l count ≡ 0
none_if l count h = ap (λ x. ready_if x count) h

same_left : (s : InEndpoint) (state : InState) (ring more : List ℕ) (gone count : ℕ) (n : ℕ) (left : List (List ℕ)) → is_closed (in_phase state n left) ≡ false → Holds state s ring → SameLeft s state ring more gone (ready_if s.loaded count)
same_left s Closed ring more gone count n left e h = cc
same_left s Rest ring more gone count n left e h = record {
  phase = refl;
  ready = no_ready (ready_if s.loaded count) (drop gone (packets_left s (ring ++ more))) (drop gone (packets_left s ring)) (none_if s.loaded count h.load);
  holds = record { opened = h.opened; load = h.load };
}
same_left s Posted ring more gone count n left e h = record {
  phase = refl;
  ready = no_ready (ready_if s.loaded count) (drop gone (packets_left s (ring ++ more))) (drop gone (packets_left s ring)) (none_if s.loaded count h.load);
  holds = record { opened = h.opened; class = h.class; load = h.load };
}
same_left s Running ring more gone count n left e h =
    let same = left_same s ring more h.within in
    let longer = length-append ring more in
    record {
      phase = ap (λ ps. pipe.Running s.bytes (drop gone ps)) same;
      ready = ap (λ ps. take (ready_if s.loaded count) (drop gone ps)) same;
      holds = record { opened = h.opened; class = h.class; within = let w = h.within in omega (arith, longer); sent = h.sent; left = h.left ∙ sym (ap length same); load = h.load };
    }

pub writes_all : (n : ℕ) (bytes : List ℕ) (j : InJoint) → AreBytes bytes → IsOpenIn j → InStands (suc n) j
    → InIs (suc n) (in_written bytes j) (record (abstract_in j) { queue = j.ring ++ bytes })
writes_all n bytes j below op st =
    let s = j.software in
    let count = ready_count j.end s in
    let same : SameLeft s s.state j.ring bytes (s.loaded - count) count = same_left s s.state j.ring bytes (s.loaded - count) _ s.bytes _ op st.holds in
    record {
      abstract = ap (λ p. record { queue = j.ring ++ bytes; phase = p; loaded = count; toggle = in_toggle s.state j.end.toggle; halted = s.halted }) same.phase;
      stands = record {
        kept = st.kept;
        stall = st.stall;
        enabled = st.enabled;
        nak = st.nak;
        xfrc = st.xfrc;
        epdisd = st.epdisd;
        count = st.count;
        size = subst (IsSized (field_of j.end.tsiz DIEPTSIZ_SIZE)) (sym same.ready) st.size;
        fifo = st.fifo ∙ sym (ap fifo_of same.ready);
        holds = same.holds;
        bytes = λ i. behind j.ring bytes i st.bytes below;
      };
    }

pub writes : (n capacity : ℕ) (bytes : List ℕ) (j : InJoint) → AreBytes bytes → IsOpenIn j → InStands (suc n) j
    → InIs (suc n) (in_written (take (pipe.room capacity (abstract_in j)) bytes) j) (pipe.written capacity bytes (abstract_in j))
writes n capacity bytes j below op st =
    let room = pipe.room capacity (abstract_in j) in
    writes_all n (take room bytes) j (take_bytes room bytes below) op st

-- an opening

closed_idle : (n : ℕ) (j : InJoint) (state : InState) (k : ℕ) (left : List (List ℕ)) → is_closed (in_phase state k left) ≡ true → Holds state j.software j.ring → InStands (suc n) j → Idle (suc n) j × (j.ring ≡ [])
closed_idle n j Closed k left e h st = (stands_idle (suc n) j st (ap (λ (s : InEndpoint). s.loaded) h.unused), h.empty)
closed_idle n j Rest k left e h st = cc
closed_idle n j Running k left e h st = cc
closed_idle n j Posted k left e h st = cc

pub opens : (n : ℕ) (e : Endpoint) (j : InJoint) → suc n ≤ 15 → IsOpened e → IsClosedIn j → InStands (suc n) j → InIs (suc n) (in_opened (suc n) e j) pipe.opened
opens n e j small opened closed st =
    let found : Idle (suc n) j × (j.ring ≡ []) = closed_idle n j j.software.state j.software.bytes _ closed st.holds st in
    let i : Idle (suc n) j = found.0 in
    let s = software_opened e in
    let control : (in_control_written true j.end (control_with (suc n) s in_snak_sd0pid)).control ≡ control_is (in_open_bits (suc n) e) true false j.end.control.enabled =
    snak_sd0pid_is (suc n) e false j.end.control opened.most small in
    let stays : flag (control_with (suc n) s in_snak_sd0pid) DIEPCTL_EPDIS ≡ false = leaves_enabled (suc n) e false false true true false in_snak_sd0pid opened.most small refl in
    let data0 : flag (control_with (suc n) s in_snak_sd0pid) DIEPCTL_SD0PID ≡ true = sets_toggle (suc n) e false false true false false in_snak_sd0pid opened.most small refl in
    let Made : List ℕ → Toggle → InPipe = λ queue toggle. record { queue = queue; phase = pipe.Rest; loaded = 0; toggle = toggle; halted = false } in
    record {
      abstract = ap (λ f. Made j.ring (if f then D0 else j.end.toggle)) data0 ∙ ap (λ queue. Made queue D0) found.1;
      stands = idle_stands (suc n) (in_opened (suc n) e j) (record {
        kept = ap (λ (c : Control). c.kept) control;
        stall = ap (λ (c : Control). c.stall) control;
        enabled = ap (λ (c : Control). c.enabled) control ∙ i.enabled;
        xfrc = i.xfrc;
        epdisd = ap (λ b. j.end.epdisd || b) stays ∙ or_false j.end.epdisd ∙ i.epdisd;
        fifo = i.fifo;
        load = refl;
        holds = record { opened = opened; load = refl };
        bytes = i.bytes;
      });
    }

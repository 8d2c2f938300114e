-- The calls of a class and of the core, and a task.
use Rattle.std.proofs.Common.{◌≡◌, ℕ, suc, ◌≤◌, List, [], length, take, drop, true, false, refl, ap, ◌∙◌, sym, arith, take_all}
use Rattle.usb_packet.specs.declared.bus.Toggle.{Toggle}
use Rattle.usb_packet.specs.declared.bus.Toggle.TheVariants.{D0}
use Rattle.usb_descriptor.specs.declared.endpoint.Endpoint.{Endpoint}
use Rattle.device_table.specs.State.{InEnd, Control, in_end_of, tx_depth}
use Rattle.device_pipe.specs.InPipe as pipe
use Rattle.device_pipe.specs.InPipe.{InPipe, InPhase, is_closed, cut}
use Rattle.endpoint_relation.specs.declared.in_.InState.{InState}
use Rattle.endpoint_relation.specs.declared.in_.InState.TheVariants.{Closed, Rest, Running, Posted}
use Rattle.endpoint_relation.specs.declared.in_.InEndpoint.{InEndpoint}
use Rattle.endpoint_relation.specs.InWords.{in_open_bits, in_snak_epdis, in_snak_sd0pid_epdis}
use Rattle.endpoint_relation.specs.InRelation.{InJoint, InStands, Holds, IsOpened, abstract_in, in_unused, stalls, packets_if, ready_packets, in_phase, in_kept}
use Rattle.endpoint_relation.specs.InSteps.{in_tasked, in_started, in_cleared, in_dropped, in_closed, end_stopped, control_with}
use Rattle.endpoint_relation.specs.InLaws.{InIs, IsClass, IsOpenIn}
use Rattle.endpoint_relation.proofs.InControl.{snak_epdis_is, snak_sd0pid_epdis_is, closed_is, leaves_toggle, sets_toggle}
use Rattle.endpoint_relation.proofs.InCut.{some_packets, some_cut}
use Rattle.endpoint_relation.proofs.InLoad.{AreBytes, drop_bytes}
use Rattle.endpoint_relation.proofs.InIdle.{Idle, idle_stands, stands_idle, none_ready, StoppedAs, stopped}

abbrev pub joint : InEnd → InEndpoint → List ℕ → InState → InJoint
joint end s ring state = record { end = end; software = record s { state = state }; ring = ring }

-- the start

pub begins : (n : ℕ) → InIs (suc n) (record { end = in_end_of tx_depth; software = in_unused; ring = [] }) pipe.closed
begins n = record {
  abstract = refl;
  stands = idle_stands (suc n) (record { end = in_end_of tx_depth; software = in_unused; ring = [] }) (record {
    kept = refl;
    stall = refl;
    enabled = refl;
    xfrc = refl;
    epdisd = refl;
    fifo = refl;
    load = refl;
    holds = record { unused = refl; empty = refl };
    bytes = λ i. omega arith;
  });
}

-- a session ends

pub closes : (n : ℕ) (j : InJoint) → InStands (suc n) j → InIs (suc n) (in_closed j) pipe.closed
closes n j st =
    let s : StoppedAs (end_stopped j.end in_snak_epdis) 0 false j.end.toggle =
    stopped j.end in_snak_epdis 0 false false (ready_packets j) st.fifo (closed_is j.end.control) refl in
    record {
      abstract = refl;
      stands = idle_stands (suc n) (in_closed j) (record {
        kept = ap (λ (c : Control). c.kept) s.control;
        stall = ap (λ (c : Control). c.stall) s.control;
        enabled = ap (λ (c : Control). c.enabled) s.control;
        xfrc = s.xfrc;
        epdisd = s.epdisd;
        fifo = s.fifo;
        load = refl;
        holds = record { unused = refl; empty = refl };
        bytes = λ i. omega arith;
      });
    }

-- What an open endpoint is.

pub opened_of : (state : InState) (s : InEndpoint) (ring : List ℕ) (n : ℕ) (left : List (List ℕ)) → is_closed (in_phase state n left) ≡ false → Holds state s ring → IsOpened s.endpoint
opened_of Closed s ring n left e h = cc
opened_of Rest s ring n left e h = h.opened
opened_of Running s ring n left e h = h.opened
opened_of Posted s ring n left e h = h.opened

pub kept_of : (state : InState) (number : ℕ) (e : Endpoint) (n : ℕ) (left : List (List ℕ)) → is_closed (in_phase state n left) ≡ false → in_kept state number e ≡ in_open_bits number e
kept_of Closed number e n left h = cc
kept_of Rest number e n left h = refl
kept_of Running number e n left h = refl
kept_of Posted number e n left h = refl

-- a task

tasked : (n : ℕ) (end : InEnd) (s : InEndpoint) (ring : List ℕ) (state : InState) → InStands (suc n) (joint end s ring state) → InIs (suc n) (in_tasked (joint end s ring state)) (pipe.after_task (abstract_in (joint end s ring state)))
tasked n end s ring Closed st = record { abstract = refl; stands = st }
tasked n end s ring Rest st = record { abstract = refl; stands = st }
tasked n end s ring Running st = record { abstract = refl; stands = st }
tasked n end s ring Posted st =
    let i : Idle (suc n) (joint end s ring Posted) = stands_idle (suc n) (joint end s ring Posted) st st.holds.load in
    record {
      abstract = refl;
      stands = idle_stands (suc n) (joint end s ring Rest) (record {
        kept = i.kept;
        stall = i.stall;
        enabled = i.enabled;
        xfrc = i.xfrc;
        epdisd = i.epdisd;
        fifo = i.fifo;
        load = i.load;
        holds = record { opened = st.holds.opened; load = st.holds.load };
        bytes = i.bytes;
      });
    }

pub tasks : (n : ℕ) (j : InJoint) → InStands (suc n) j → InIs (suc n) (in_tasked j) (pipe.after_task (abstract_in j))
tasks n j st = tasked n j.end j.software j.ring j.software.state st

-- a start

started_packets : (size : ℕ) (ring : List ℕ) → 1 ≤ size → packets_if (length (cut size ring)) size (drop 0 (take (length ring) ring)) ≡ cut size ring
started_packets size ring one =
    ap (λ bytes. packets_if (length (cut size ring)) size bytes) (take_all (length ring) ring (omega arith))
    ∙ some_packets (length (cut size ring)) size ring (some_cut size ring one)

started : (n : ℕ) (end : InEnd) (s : InEndpoint) (ring : List ℕ) (state : InState) → IsClass (joint end s ring state) → InStands (suc n) (joint end s ring state)
    → InIs (suc n) (in_started (joint end s ring state)) (pipe.started s.endpoint.size (abstract_in (joint end s ring state)))
started n end s ring Closed class st = record { abstract = refl; stands = st }
started n end s ring Running class st = record { abstract = refl; stands = st }
started n end s ring Posted class st = record { abstract = refl; stands = st }
started n end s ring Rest class st =
    let old = joint end s ring Rest in
    let i : Idle (suc n) old = stands_idle (suc n) old st st.holds.load in
    let size = s.endpoint.size in
    let packets = started_packets size ring st.holds.opened.least in
    let Made : List (List ℕ) → ℕ → InPipe = λ left loaded. record { queue = ring; phase = pipe.Running (length ring) left; loaded = loaded; toggle = end.toggle; halted = s.halted } in
    record {
      abstract = ap (λ left. Made left 0) packets ∙ sym (ap (Made (cut size ring)) (none_ready old st.holds.load));
      stands = idle_stands (suc n) (in_started old) (record {
        kept = i.kept;
        stall = i.stall;
        enabled = i.enabled;
        xfrc = i.xfrc;
        epdisd = i.epdisd;
        fifo = i.fifo;
        load = refl;
        holds = record {
          opened = st.holds.opened;
          class = class;
          within = omega arith;
          sent = omega arith;
          left = sym (ap length packets);
          load = tt;
        };
        bytes = i.bytes;
      });
    }

pub starts : (n : ℕ) (j : InJoint) → IsClass j → InStands (suc n) j → InIs (suc n) (in_started j) (pipe.started j.software.endpoint.size (abstract_in j))
starts n j class st = started n j.end j.software j.ring j.software.state class st

-- a clear, and a drop

resting : (n : ℕ) (end new : InEnd) (s : InEndpoint) (ring : List ℕ) (toggle : Toggle) → StoppedAs new (in_open_bits (suc n) s.endpoint) (stalls s) toggle → IsOpened s.endpoint → AreBytes ring
    → InIs (suc n) (record { end = new; software = record s { state = Rest; loaded = 0 }; ring = ring }) (record { queue = ring; phase = pipe.Rest; loaded = 0; toggle = toggle; halted = s.halted })
resting n end new s ring toggle is opened below = record {
  abstract = ap (λ t. record { queue = ring; phase = pipe.Rest; loaded = 0; toggle = t; halted = s.halted }) is.toggle_is;
  stands = idle_stands (suc n) (record { end = new; software = record s { state = Rest; loaded = 0 }; ring = ring }) (record {
    kept = ap (λ (c : Control). c.kept) is.control;
    stall = ap (λ (c : Control). c.stall) is.control;
    enabled = ap (λ (c : Control). c.enabled) is.control;
    xfrc = is.xfrc;
    epdisd = is.epdisd;
    fifo = is.fifo;
    load = refl;
    holds = record { opened = opened; load = refl };
    bytes = below;
  });
}

cleared_end : (n : ℕ) (j : InJoint) (s : InEndpoint) → suc n ≤ 15 → IsOpened s.endpoint → s.halted ≡ false → InStands (suc n) j
    → StoppedAs (end_stopped j.end (control_with (suc n) s in_snak_sd0pid_epdis)) (in_open_bits (suc n) s.endpoint) (stalls s) D0
cleared_end n j s small opened halt st =
    stopped j.end (control_with (suc n) s in_snak_sd0pid_epdis) (in_open_bits (suc n) s.endpoint) (stalls s) true (ready_packets j) st.fifo
    (snak_sd0pid_epdis_is (suc n) s.endpoint (stalls s) j.end.control opened.most small)
    (sets_toggle (suc n) s.endpoint (stalls s) false true true false in_snak_sd0pid_epdis opened.most small refl)

cleared_by : (n : ℕ) (end : InEnd) (s : InEndpoint) (ring : List ℕ) (state : InState) → suc n ≤ 15 → IsOpenIn (joint end s ring state) → InStands (suc n) (joint end s ring state)
    → InIs (suc n) (in_cleared (suc n) (joint end s ring state)) (pipe.cleared (abstract_in (joint end s ring state)))
cleared_by n end s ring Closed small op st = cc
cleared_by n end s ring Rest small op st =
    resting n end _ (record s { halted = false }) ring D0 (cleared_end n (joint end s ring Rest) (record s { halted = false }) small st.holds.opened refl st) st.holds.opened st.bytes
cleared_by n end s ring Posted small op st =
    resting n end _ (record s { halted = false }) ring D0 (cleared_end n (joint end s ring Posted) (record s { halted = false }) small st.holds.opened refl st) st.holds.opened st.bytes
cleared_by n end s ring Running small op st =
    resting n end _ (record s { halted = false }) (drop s.bytes ring) D0 (cleared_end n (joint end s ring Running) (record s { halted = false }) small st.holds.opened refl st) st.holds.opened
    (drop_bytes s.bytes ring st.bytes)

pub clears : (n : ℕ) (j : InJoint) → suc n ≤ 15 → IsOpenIn j → InStands (suc n) j → InIs (suc n) (in_cleared (suc n) j) (pipe.cleared (abstract_in j))
clears n j small op st = cleared_by n j.end j.software j.ring j.software.state small op st

dropped_end : (n : ℕ) (j : InJoint) (s : InEndpoint) → suc n ≤ 15 → IsOpened s.endpoint → InStands (suc n) j
    → StoppedAs (end_stopped j.end (control_with (suc n) s in_snak_epdis)) (in_open_bits (suc n) s.endpoint) (stalls s) j.end.toggle
dropped_end n j s small opened st =
    stopped j.end (control_with (suc n) s in_snak_epdis) (in_open_bits (suc n) s.endpoint) (stalls s) false (ready_packets j) st.fifo
    (snak_epdis_is (suc n) s.endpoint (stalls s) j.end.control opened.most small)
    (leaves_toggle (suc n) s.endpoint (stalls s) false true true false in_snak_epdis opened.most small refl)

no_bytes : AreBytes []
no_bytes i = omega arith

dropped_by : (n : ℕ) (end : InEnd) (s : InEndpoint) (ring : List ℕ) (state : InState) → suc n ≤ 15 → IsOpenIn (joint end s ring state) → InStands (suc n) (joint end s ring state)
    → InIs (suc n) (in_dropped (suc n) (joint end s ring state)) (pipe.dropped (abstract_in (joint end s ring state)))
dropped_by n end s ring Closed small op st = cc
dropped_by n end s ring Rest small op st = resting n end _ s [] end.toggle (dropped_end n (joint end s ring Rest) s small st.holds.opened st) st.holds.opened no_bytes
dropped_by n end s ring Posted small op st = resting n end _ s [] end.toggle (dropped_end n (joint end s ring Posted) s small st.holds.opened st) st.holds.opened no_bytes
dropped_by n end s ring Running small op st = resting n end _ s [] end.toggle (dropped_end n (joint end s ring Running) s small st.holds.opened st) st.holds.opened no_bytes

pub drops : (n : ℕ) (j : InJoint) → suc n ≤ 15 → IsOpenIn j → InStands (suc n) j → InIs (suc n) (in_dropped (suc n) j) (pipe.dropped (abstract_in j))
drops n j small op st = dropped_by n j.end j.software j.ring j.software.state small op st

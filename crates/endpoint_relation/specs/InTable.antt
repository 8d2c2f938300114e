-- The register lines of each step at the controller: an endpoint's part is the step, and all else stays.
use Rattle.std.specs.Prelude.{◌≡◌, ℕ, zero, suc, ◌*◌, ◌^◌, ◌≤◌, Bool, if◌then◌else◌, List, [], ◌∷◌, length}
use Rattle.std.specs.List.{concat}
use Rattle.usb_packet.specs.declared.bus.BusEvent.TheVariants as event
use Rattle.usb_packet.specs.declared.bus.BusAnswer.TheVariants as answers
use Rattle.usb_descriptor.specs.declared.endpoint.Endpoint.{Endpoint}
use Rattle.dwc2_regs.specs.declared.TheConstants.{GRSTCTL_TXFNUM, DIEPINT_XFRC}
use Rattle.dwc2_regs.specs.Register.{grstctl, diepctl, diepint, dieptsiz, fifo}
use Rattle.dwc2_fifo.specs.Words.{words_of}
use Rattle.device_table.specs.State.{Table, in_end, with_in}
use Rattle.device_table.specs.Words.{flag}
use Rattle.device_table.specs.Read.{value_read}
use Rattle.device_table.specs.Write.{after_write, emptied}
use Rattle.device_table.specs.Bus.{hears, bus_answer, after_bus}
use Rattle.usb_descriptor.specs.Set.{is_core}
use Rattle.endpoint_relation.specs.declared.in_.InState.{InState}
use Rattle.endpoint_relation.specs.declared.in_.InState.TheVariants.{Closed, Rest, Running, Posted}
use Rattle.endpoint_relation.specs.declared.in_.InEndpoint.{InEndpoint}
use Rattle.endpoint_relation.specs.InWords.{in_cnak, in_snak_epena, in_snak_epdis, in_snak_sd0pid, in_snak_sd0pid_epdis, in_size_word, in_xfrc, in_both, in_flush}
use Rattle.endpoint_relation.specs.InRelation.{InJoint}
use Rattle.endpoint_relation.specs.InSteps.{control_with, next_packets, token_answer, in_token, found_software, in_served, in_halted, in_cleared, in_dropped, in_opened, in_closed, software_halted, software_cleared, software_opened}

-- an endpoint of the controller, with its software and ring, and the controller with another state of it
abbrev pub joint_at : Table → ℕ → InEndpoint → List ℕ → InJoint
joint_at t x s ring = record { end = in_end t x; software = s; ring = ring }

abbrev pub with_joint : Table → ℕ → InJoint → Table
with_joint t x j = with_in t x j.end

-- Loading.

abbrev pub words_at : ℕ → Table → List ℕ → Table
words_at x t [] = t
words_at x t (word ∷ words) = words_at x (after_write t (fifo x) word) words

abbrev pub packets_at : ℕ → Table → List (List ℕ) → Table
packets_at x t [] = t
packets_at x t (packet ∷ packets) = packets_at x (words_at x t (words_of packet)) packets

abbrev pub loaded_at : ℕ → InEndpoint → List (List ℕ) → Table → Table
loaded_at x s packets t =
    let sized = after_write t (dieptsiz x) (in_size_word (length packets) (length (concat packets))) in
    let enabled = after_write sized (diepctl x) (control_with x s in_snak_epena) in
    after_write (packets_at x enabled packets) (diepctl x) (control_with x s in_cnak)

-- A handler run.

abbrev pub goes_on_at : ℕ → ℕ → InEndpoint → List ℕ → Table → Table
goes_on_at zero x s ring t = t
goes_on_at (suc left) x s ring t = loaded_at x s (next_packets s ring) t

abbrev pub run_at : ℕ → ℕ → InEndpoint → List ℕ → Table → Table
run_at zero x s ring t = goes_on_at s.left x s ring t
run_at (suc loaded) x s ring t =
    if flag (value_read t (diepint x)) DIEPINT_XFRC
    then goes_on_at (found_software s).left x (found_software s) ring (after_write t (diepint x) in_xfrc)
    else t

abbrev pub served_at : InState → ℕ → InEndpoint → List ℕ → Table → Table
served_at Closed x s ring t = t
served_at Rest x s ring t = t
served_at Running x s ring t = run_at s.loaded x s ring t
served_at Posted x s ring t = t

-- Each call.

abbrev pub halted_at : Bool → ℕ → InEndpoint → Table → Table
halted_at core x s t = if core then t else after_write t (diepctl x) (control_with x s 0)

-- DIEPCTLx, the flush of the endpoint's FIFO, and DIEPINTx
abbrev pub stopped_at : ℕ → ℕ → Table → Table
stopped_at x word t = after_write (after_write (after_write t (diepctl x) word) grstctl (in_flush x)) (diepint x) in_both

-- GRSTCTL keeps the number of the FIFO that was flushed
abbrev pub with_flushed : Table → ℕ → Table
with_flushed t x = record t { kept = record t.kept { grstctl = 2 ^ GRSTCTL_TXFNUM.low * x } }

-- the number is one of the controller's IN endpoints
abbrev pub IsAt : ℕ → Table → Type 0
IsAt n t = suc n ≤ length t.ins

abbrev pub RunsAt : Type 0
RunsAt =
    (n : ℕ) (t : Table) (s : InEndpoint) (ring : List ℕ) → IsAt n t
    → served_at s.state (suc n) s ring t ≡ with_joint t (suc n) (in_served (suc n) (joint_at t (suc n) s ring))

abbrev pub HaltsAt : Type 0
HaltsAt =
    (n : ℕ) (t : Table) (s : InEndpoint) (ring : List ℕ)
    → halted_at (is_core s.endpoint.owner) (suc n) (software_halted s) t ≡ with_joint t (suc n) (in_halted (suc n) (joint_at t (suc n) s ring))

abbrev pub ClearsAt : Type 0
ClearsAt =
    (n : ℕ) (t : Table) (s : InEndpoint) (ring : List ℕ) → IsAt n t → suc n ≤ 15
    → stopped_at (suc n) (control_with (suc n) (software_cleared s) in_snak_sd0pid_epdis) t
    ≡ with_joint (with_flushed t (suc n)) (suc n) (in_cleared (suc n) (joint_at t (suc n) s ring))

abbrev pub DropsAt : Type 0
DropsAt =
    (n : ℕ) (t : Table) (s : InEndpoint) (ring : List ℕ) → IsAt n t → suc n ≤ 15
    → stopped_at (suc n) (control_with (suc n) s in_snak_epdis) t
    ≡ with_joint (with_flushed t (suc n)) (suc n) (in_dropped (suc n) (joint_at t (suc n) s ring))

abbrev pub OpensAt : Type 0
OpensAt =
    (n : ℕ) (e : Endpoint) (t : Table) (s : InEndpoint) (ring : List ℕ)
    → after_write t (diepctl (suc n)) (control_with (suc n) (software_opened e) in_snak_sd0pid)
    ≡ with_joint t (suc n) (in_opened (suc n) e (joint_at t (suc n) s ring))

abbrev pub ClosesAt : Type 0
ClosesAt =
    (n : ℕ) (t : Table) (s : InEndpoint) (ring : List ℕ) → IsAt n t → suc n ≤ 15
    → stopped_at (suc n) in_snak_epdis t ≡ with_joint (with_flushed t (suc n)) (suc n) (in_closed (joint_at t (suc n) s ring))

-- with another state of an endpoint, its state is that one
abbrev pub StateIsKept : Type 0
StateIsKept = (n : ℕ) (t : Table) (j : InJoint) → IsAt n t → in_end (with_joint t (suc n) j) (suc n) ≡ j.end

-- TXFFLSH of all FIFOs empties each
abbrev pub flush_all : ℕ
flush_all = in_flush 16

abbrev pub FlushesAll : Type 0
FlushesAll = (n : ℕ) (t : Table) → in_end (after_write t grstctl flush_all) (suc n) ≡ emptied (in_end t (suc n))

-- A handler run that serves a reset disables each endpoint, flushes all FIFOs, and then clears each endpoint's interrupts
abbrev pub reset_at : ℕ → Table → Table
reset_at x t = after_write (after_write (after_write t (diepctl x) in_snak_epdis) grstctl flush_all) (diepint x) in_both

abbrev pub ResetsAt : Type 0
ResetsAt =
    (n : ℕ) (t : Table) (s : InEndpoint) (ring : List ℕ) → IsAt n t
    → in_end (reset_at (suc n) t) (suc n) ≡ (in_closed (joint_at t (suc n) s ring)).end

-- The bus. A token for another address is not heard; a reset leaves the endpoint.
pub record BusAt (n : ℕ) (t : Table) (s : InEndpoint) (ring : List ℕ) (addr : ℕ) (ok : Bool) : Type 0 where
  pub answer : bus_answer t (event.In addr (suc n) ok) ≡ (if hears t addr then token_answer (suc n) (in_end t (suc n)) else answers.NoAnswer)
  pub next : after_bus t (event.In addr (suc n) ok) ≡ (if hears t addr then with_joint t (suc n) (in_token (suc n) (joint_at t (suc n) s ring) ok) else t)
  pub reset : in_end (after_bus t event.Reset) (suc n) ≡ in_end t (suc n)

abbrev pub TokensAt : Type 0
TokensAt = (n : ℕ) (t : Table) (s : InEndpoint) (ring : List ℕ) (addr : ℕ) (ok : Bool) → BusAt n t s ring addr ok

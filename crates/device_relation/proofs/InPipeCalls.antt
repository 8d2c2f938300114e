-- The calls on one IN endpoint other than 0.
use Rattle.std.proofs.Common.{◌≡◌, ℕ, suc, ◌+◌, ◌<◌, ◌≤◌, List, refl, ap, sym, ◌∙◌, arith, subst}
use Rattle.std.specs.Prelude.{◌-◌, take, not, slice_index, if◌then◌else◌}
use Rattle.usb_descriptor.specs.declared.endpoint.Endpoint.{Endpoint}
use Rattle.usb_ring.specs.Ring.{appended, room}
use Rattle.dwc2_regs.specs.declared.access.TheConstants.{FS4}
use Rattle.device_rings.specs.Rings.{Rings, in_ring, emptied}
use Rattle.endpoint_relation.specs.declared.in_.InState.TheVariants.{Rest}
use Rattle.endpoint_relation.specs.declared.in_.InEndpoint.{InEndpoint}
use Rattle.endpoint_relation.specs.InRelation.{InJoint, IsOpened, abstract_in}
use Rattle.endpoint_relation.specs.InSteps as steps
use Rattle.endpoint_relation.specs.InSteps.{software_started}
use Rattle.endpoint_relation.specs.InTable.{with_flushed}
use Rattle.endpoint_relation.specs.InLaws.{InIs, IsClass, IsOpenIn, IsClosedIn}
use Rattle.endpoint_relation.proofs.InCalls.{starts, drops, clears, closes, tasks}
use Rattle.endpoint_relation.proofs.InOpen.{writes, halts, opens}
use Rattle.device_pipe.specs.InPipe as pipe
use Rattle.device_pipe.specs.InPipe.{InPipe}
use Rattle.device_machine.specs.Pipes.{Pipes, InSlot, in_slot, with_in_slot, in_hears, out_opened, in_opened, in_closed, out_halted, in_halted, out_cleared, in_cleared, in_slot_after_task}
use Rattle.device_relation.specs.Software.{Joint, in_kept}
use Rattle.device_relation.specs.PipeRelation.{InPipePart, in_joint}
use Rattle.device_relation.specs.Port.{Port, AllStandFor, with_pipes, with_endpoint, halted_at, cleared_at, started_at, written_at, out_dropped, in_dropped, dropped_at, noted_in}
use Rattle.device_relation.specs.Run.{Whole, in_joint_of, run_open_in, run_start_in, run_halt_in, run_clear_in, run_drop_in, run_write_in, run_note_in, close_in}
use Rattle.device_relation.proofs.PipeCalls.{in_address, in_call, same_in_ring, same_in_end, same_in_parts}

-- One endpoint as it is.

abbrev joint_at : Joint → Rings → ℕ → InJoint
joint_at j r m = in_joint j.table j.software r (suc m)

part : (j : Joint) (r : Rings) (p : Port) (m : ℕ) → m < 3 → AllStandFor FS4 j r p → InPipePart j.table j.software r p.pipes m
part j r p m few all = all.pipes.ins m few

fifteen : (m : ℕ) → m < 3 → suc m ≤ 15
fifteen m h = omega (arith, h)

at_address : (j' : Joint) (r' : Rings) (p : Port) (q q' : Pipes) → q' ≡ q → AllStandFor FS4 j' r' (with_pipes p q) → AllStandFor FS4 j' r' (with_pipes p q')
at_address j' r' p q q' e all = subst (λ x. AllStandFor FS4 j' r' (with_pipes p x)) (sym e) all

-- the number of the FIFO that was flushed last
abbrev flushed_before : Joint → ℕ
flushed_before j = j.table.kept.grstctl

abbrev flushed_now : Joint → ℕ → ℕ
flushed_now j m = (with_flushed j.table (suc m)).kept.grstctl

-- A session begins: an endpoint whose number no other one has is opened.
pub open_in_for : (j : Joint) (r : Rings) (p : Port) (e : Endpoint) (m : ℕ) → m < 3 → e.addr ≡ 128 + suc m → IsClosedIn (in_joint j.table j.software r (suc m)) → IsOpened e
    → AllStandFor FS4 j r p → AllStandFor FS4 (run_open_in j e (suc m)) r (with_endpoint p e)
open_in_for j r p e m few address closed size all =
    let i = steps.in_opened (suc m) e (joint_at j r m) in
    let slot = in_opened e (in_slot p.pipes (suc m)) in
    at_address (run_open_in j e (suc m)) r p (with_in_slot p.pipes (suc m) slot) (with_endpoint p e).pipes (in_address (out_opened e) (in_opened e) p.pipes e.addr (suc m) address)
    (in_call j r r p m i (in_ring r (suc m)) slot pipe.opened (flushed_before j) few refl (same_in_ring r m) refl refl
    (opens m e (joint_at j r m) (fifteen m few) size closed (part j r p m few all).stands) all)

-- A session ends: one endpoint, with its ring.
pub close_in_for : (w : Whole) (p : Port) (m : ℕ) → m < 3 → AllStandFor FS4 w.joint w.rings p
    → AllStandFor FS4 (close_in w (suc m)).joint (close_in w (suc m)).rings (with_pipes p (with_in_slot p.pipes (suc m) (in_closed (in_slot p.pipes (suc m)))))
close_in_for w p m few all =
    let j = w.joint in
    let r = w.rings in
    in_call j r (close_in w (suc m)).rings p m (steps.in_closed (joint_at j r m)) (emptied (in_ring r (suc m))) (in_closed (in_slot p.pipes (suc m))) pipe.closed (flushed_now j m)
    few refl refl refl refl (closes m (joint_at j r m) (part j r p m few all).stands) all

-- Halts: of an endpoint that is open.

-- a change of one that is open, which the pipes make of those alone
open_changes : (i : InJoint) (f : InPipe → InPipe) (slot : InSlot) → slot ≡ record { endpoint = i.software.endpoint; pipe = abstract_in i } → IsOpenIn i
    → (if in_hears slot then record slot { pipe = f slot.pipe } else slot) ≡ record { endpoint = i.software.endpoint; pipe = f (abstract_in i) }
open_changes i f slot is opened =
    ap (λ (x : InSlot). if in_hears x then record x { pipe = f x.pipe } else x) is
    ∙ ap (λ b. if not b then record { endpoint = i.software.endpoint; pipe = f (abstract_in i) } else record { endpoint = i.software.endpoint; pipe = abstract_in i }) opened

pub halt_in_for : (j : Joint) (r : Rings) (p : Port) (address m : ℕ) → m < 3 → address ≡ 128 + suc m → IsOpenIn (in_joint j.table j.software r (suc m))
    → AllStandFor FS4 j r p → AllStandFor FS4 (run_halt_in j (suc m)) r (halted_at p address)
halt_in_for j r p address m few is opened all =
    let i = steps.in_halted (suc m) (joint_at j r m) in
    let slot = in_halted (in_slot p.pipes (suc m)) in
    at_address (run_halt_in j (suc m)) r p (with_in_slot p.pipes (suc m) slot) (halted_at p address).pipes (in_address out_halted in_halted p.pipes address (suc m) is)
    (in_call j r r p m i (in_ring r (suc m)) slot (pipe.halted_ (abstract_in (joint_at j r m))) (flushed_before j) few refl (same_in_ring r m) refl
    (open_changes (joint_at j r m) pipe.halted_ (in_slot p.pipes (suc m)) (part j r p m few all).slot opened)
    (halts m (joint_at j r m) (fifteen m few) opened (part j r p m few all).stands) all)

pub clear_in_for : (w : Whole) (p : Port) (address m : ℕ) → m < 3 → address ≡ 128 + suc m → IsOpenIn (in_joint_of w (suc m))
    → AllStandFor FS4 w.joint w.rings p → AllStandFor FS4 (run_clear_in w (suc m)).joint (run_clear_in w (suc m)).rings (cleared_at p address)
clear_in_for w p address m few is opened all =
    let j = w.joint in
    let r = w.rings in
    let w1 = run_clear_in w (suc m) in
    let i = steps.in_cleared (suc m) (joint_at j r m) in
    let slot = in_cleared (in_slot p.pipes (suc m)) in
    at_address w1.joint w1.rings p (with_in_slot p.pipes (suc m) slot) (cleared_at p address).pipes (in_address out_cleared in_cleared p.pipes address (suc m) is)
    (in_call j r w1.rings p m i (record (in_ring r (suc m)) { bytes = i.ring }) slot (pipe.cleared (abstract_in (joint_at j r m))) (flushed_now j m) few refl refl refl
    (open_changes (joint_at j r m) pipe.cleared (in_slot p.pipes (suc m)) (part j r p m few all).slot opened)
    (clears m (joint_at j r m) (fifteen m few) opened (part j r p m few all).stands) all)

-- The class's calls.

-- what lies in the ring is one transfer, where none runs
pub start_in_for : (j : Joint) (r : Rings) (p : Port) (m : ℕ) → m < 3 → (in_kept j.software (suc m)).state ≡ Rest → IsClass (in_joint j.table j.software r (suc m))
    → AllStandFor FS4 j r p → AllStandFor FS4 (run_start_in j (suc m) (in_ring r (suc m)).bytes) r (started_at p (suc m))
start_in_for j r p m few rests class all =
    let kept = in_kept j.software (suc m) in
    let bytes = (in_ring r (suc m)).bytes in
    let started : InEndpoint = software_started Rest kept bytes in
    let i : InJoint = record (joint_at j r m) { software = started } in
    let is : InPipe = pipe.started kept.endpoint.size (abstract_in (joint_at j r m)) in
    let change : InSlot → InSlot = λ slot. record slot { pipe = pipe.started slot.endpoint.size slot.pipe } in
    let new : InIs (suc m) i is =
    subst (λ state. InIs (suc m) (record (joint_at j r m) { software = software_started state kept bytes }) is) rests
    (starts m (joint_at j r m) class (part j r p m few all).stands) in
    subst (λ x. AllStandFor FS4 x r (started_at p (suc m))) (same_in_end j m started)
    (in_call j r r p m i (in_ring r (suc m)) (change (in_slot p.pipes (suc m))) is (flushed_before j) few refl (same_in_ring r m) refl (ap change (part j r p m few all).slot) new all)

-- as many of the bytes as the ring has room for
pub write_in_for : (w : Whole) (p : Port) (m : ℕ) (bytes : List ℕ) → m < 3 → ((i : ℕ) → slice_index bytes i < 256) → IsOpenIn (in_joint_of w (suc m))
    → AllStandFor FS4 w.joint w.rings p
    → AllStandFor FS4 (run_write_in w (suc m) bytes).joint (run_write_in w (suc m) bytes).rings (written_at p (suc m) (in_ring w.rings (suc m)).capacity bytes)
write_in_for w p m bytes few below opened all =
    let j = w.joint in
    let r = w.rings in
    let ring = in_ring r (suc m) in
    let w1 = run_write_in w (suc m) bytes in
    let is : InPipe = pipe.written ring.capacity bytes (abstract_in (joint_at j r m)) in
    let i : InJoint = steps.in_written (take (room ring) bytes) (joint_at j r m) in
    let change : InSlot → InSlot = λ slot. record slot { pipe = pipe.written ring.capacity bytes slot.pipe } in
    subst (λ x. AllStandFor FS4 x w1.rings (written_at p (suc m) ring.capacity bytes)) (same_in_parts j m)
    (in_call j r w1.rings p m i (appended ring (take (room ring) bytes)) (change (in_slot p.pipes (suc m))) is (flushed_before j) few refl refl refl (ap change (part j r p m few all).slot)
    (writes m ring.capacity bytes (joint_at j r m) below opened (part j r p m few all).stands) all)

pub drop_in_for : (w : Whole) (p : Port) (address m : ℕ) → m < 3 → address ≡ 128 + suc m → IsOpenIn (in_joint_of w (suc m))
    → AllStandFor FS4 w.joint w.rings p → AllStandFor FS4 (run_drop_in w (suc m)).joint (run_drop_in w (suc m)).rings (dropped_at p address)
drop_in_for w p address m few is opened all =
    let j = w.joint in
    let r = w.rings in
    let w1 = run_drop_in w (suc m) in
    let slot = in_dropped (in_slot p.pipes (suc m)) in
    at_address w1.joint w1.rings p (with_in_slot p.pipes (suc m) slot) (dropped_at p address).pipes (in_address out_dropped in_dropped p.pipes address (suc m) is)
    (in_call j r w1.rings p m (steps.in_dropped (suc m) (joint_at j r m)) (emptied (in_ring r (suc m))) slot (pipe.dropped (abstract_in (joint_at j r m))) (flushed_now j m) few refl refl refl
    (ap in_dropped (part j r p m few all).slot)
    (drops m (joint_at j r m) (fifteen m few) opened (part j r p m few all).stands) all)

-- A task takes the note.
pub note_in_for : (j : Joint) (r : Rings) (p : Port) (m : ℕ) → m < 3 → AllStandFor FS4 j r p → AllStandFor FS4 (run_note_in j (suc m)) r (noted_in p (suc m))
note_in_for j r p m few all =
    let kept = in_kept j.software (suc m) in
    let i = steps.in_tasked (joint_at j r m) in
    let slot = in_slot_after_task (in_slot p.pipes (suc m)) in
    subst (λ x. AllStandFor FS4 x r (noted_in p (suc m))) (same_in_end j m i.software)
    (in_call j r r p m i (in_ring r (suc m)) slot (pipe.after_task (abstract_in (joint_at j r m))) (flushed_before j) few refl (same_in_ring r m) refl
    (ap in_slot_after_task (part j r p m few all).slot)
    (tasks m (joint_at j r m) (part j r p m few all).stands) all)

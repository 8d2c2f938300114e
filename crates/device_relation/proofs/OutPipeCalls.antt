-- The calls on one OUT endpoint other than 0.
use Rattle.std.proofs.Common.{◌≡◌, ℕ, suc, ◌+◌, ◌<◌, ◌≤◌, List, [], ◌∷◌, length, Bool, true, false, refl, ap, sym, ◌∙◌, subst}
use Rattle.std.specs.Prelude.{IsTrue, if◌then◌else◌}
use Rattle.usb_descriptor.specs.declared.endpoint.Endpoint.{Endpoint}
use Rattle.usb_descriptor.specs.Set.{is_core}
use Rattle.usb_ring.specs.Ring.{without_first}
use Rattle.dwc2_regs.specs.declared.access.TheConstants.{FS4}
use Rattle.device_table.specs.State.{out_end}
use Rattle.device_arrivals.specs.Arrivals.{Landed, packets_at}
use Rattle.device_rings.specs.Rings.{Rings, out_ring, with_out_ring, emptied}
use Rattle.endpoint_relation.specs.declared.out_.OutState.{OutState}
use Rattle.endpoint_relation.specs.declared.out_.OutState.TheVariants.{Closed, Rest, Armed, Posted, Stale}
use Rattle.endpoint_relation.specs.OutRelation.{abstract_out, phase_of, is_open}
use Rattle.endpoint_relation.specs.OutSteps as steps
use Rattle.endpoint_relation.specs.OutSteps.{armed_end, halted_end, cleared_end, opened_end, closed_end}
use Rattle.endpoint_relation.proofs.OutCalls.{out_open, out_close, out_arm, out_halt, out_clear, out_note, out_read, out_drop}
use Rattle.device_pipe.specs.OutPipe as pipe
use Rattle.device_pipe.specs.OutPipe.{OutPipe}
use Rattle.device_machine.specs.Pipes.{Pipes, OutSlot, out_slot, with_out_slot, changed_at, is_out_open, out_opened, in_opened, out_closed, out_halted, in_halted, out_cleared, in_cleared, out_slot_after_task}
use Rattle.device_relation.specs.Software.{Joint, out_kept}
use Rattle.device_relation.specs.PipeRelation.{OutPipePart}
use Rattle.device_relation.specs.Port.{Port, AllStandFor, with_pipes, with_endpoint, halted_at, cleared_at, armed_at, read_at, out_dropped, in_dropped, dropped_at, noted_out}
use Rattle.device_relation.specs.Run.{Whole, with_out_parts, run_open_out, run_arm_out, run_halt_out, run_clear_out, run_drop_out, run_read_out, run_note_out, close_out}
use Rattle.device_relation.proofs.SetupEvents.{never}
use Rattle.device_relation.proofs.PipeCalls.{out_address, out_call, same_out_ring, same_out_end, same_out_parts}

-- One endpoint as it is.

abbrev lies_at : Joint → ℕ → List Landed
lies_at j m = packets_at (suc m) j.table.rx.entries

abbrev pipe_at : Joint → Rings → ℕ → OutPipe
pipe_at j r m = abstract_out (out_end j.table (suc m)) (out_kept j.software (suc m)) (lies_at j m) (out_ring r (suc m)).bytes

abbrev slot_at : Joint → Rings → ℕ → OutSlot
slot_at j r m = record { endpoint = (out_kept j.software (suc m)).endpoint; pipe = pipe_at j r m }

part : (j : Joint) (r : Rings) (p : Port) (m : ℕ) → m < 3 → AllStandFor FS4 j r p → OutPipePart j.table j.software r p.pipes m
part j r p m few all = all.pipes.outs m few

-- by its address in place of its number
at_address : (j' : Joint) (r' : Rings) (p : Port) (q q' : Pipes) → q' ≡ q → AllStandFor FS4 j' r' (with_pipes p q) → AllStandFor FS4 j' r' (with_pipes p q')
at_address j' r' p q q' e all = subst (λ x. AllStandFor FS4 j' r' (with_pipes p x)) (sym e) all

-- A session begins: an endpoint whose number no other one has is opened.

pub open_out_for : (j : Joint) (r : Rings) (p : Port) (e : Endpoint) (m : ℕ) → m < 3 → e.addr ≡ suc m → (out_kept j.software (suc m)).state ≡ Closed → 1 ≤ e.size → e.size ≤ 64
    → AllStandFor FS4 j r p → AllStandFor FS4 (run_open_out j e) r (with_endpoint p e)
open_out_for j r p e m few address closed least most all =
    subst (λ n. AllStandFor FS4 (opened_at n) r (with_pipes p (slots_at n))) (sym address)
    (at_address (opened_at (suc m)) r p (with_out_slot p.pipes (suc m) (out_opened e (out_slot p.pipes (suc m)))) (slots_at (suc m)) (out_address (out_opened e) (in_opened e) p.pipes m few)
    (out_call j r r p m (opened_end (out_end j.table (suc m)) (out_kept j.software (suc m)) e) (steps.opened (out_kept j.software (suc m)) e) (out_ring r (suc m)) (out_opened e (out_slot p.pipes (suc m)))
    (pipe.opened (pipe_at j r m)) few (same_out_ring r m) refl (ap (out_opened e) (part j r p m few all).slot)
    (out_open (suc m) (out_end j.table (suc m)) (out_kept j.software (suc m)) (lies_at j m) (out_ring r (suc m)) e (part j r p m few all).stands closed address least most) all))
  where
    opened_at : ℕ → Joint
    opened_at n = with_out_parts j n (opened_end (out_end j.table n) (out_kept j.software n) e) (steps.opened (out_kept j.software n) e)

    slots_at : ℕ → Pipes
    slots_at n = changed_at (out_opened e) (in_opened e) p.pipes n

-- A session ends: one endpoint, with its ring.
pub close_out_for : (j : Joint) (r : Rings) (p : Port) (m : ℕ) → m < 3 → AllStandFor FS4 j r p
    → AllStandFor FS4 (close_out j (suc m)) (with_out_ring r (suc m) (emptied (out_ring r (suc m)))) (with_pipes p (with_out_slot p.pipes (suc m) (out_closed (out_slot p.pipes (suc m)))))
close_out_for j r p m few all =
    let end = out_end j.table (suc m) in
    let kept = out_kept j.software (suc m) in
    let ring = out_ring r (suc m) in
    out_call j r (with_out_ring r (suc m) (emptied ring)) p m (closed_end end) (steps.closed end kept) (emptied ring) (out_closed (out_slot p.pipes (suc m)))
    (pipe.closed (pipe_at j r m)) few refl refl (ap out_closed (part j r p m few all).slot)
    (out_close (suc m) end kept (lies_at j m) ring (part j r p m few all).stands) all

-- Halts: of an endpoint that is open.

open_phase : (state : OutState) (over : Bool) (lies : List Landed) → is_out_open (phase_of state over lies) ≡ is_open state
open_phase Closed over lies = refl
open_phase Rest over lies = refl
open_phase Armed over [] = refl
open_phase Armed over (x ∷ xs) = refl
open_phase Posted over lies = refl
open_phase Stale over lies = refl

chosen : (b : Bool) (x y : OutSlot) → IsTrue b → (if b then x else y) ≡ x
chosen true x y h = refl
chosen false x y h = never false refl h

-- a change of one that is open, which the pipes make of those alone
open_changes : (j : Joint) (r : Rings) (m : ℕ) (f : OutPipe → OutPipe) (slot : OutSlot) → slot ≡ slot_at j r m → IsTrue (is_open (out_kept j.software (suc m)).state)
    → (if is_out_open slot.pipe.phase then record slot { pipe = f slot.pipe } else slot) ≡ record { endpoint = (out_kept j.software (suc m)).endpoint; pipe = f (pipe_at j r m) }
open_changes j r m f slot is opened =
    let kept = out_kept j.software (suc m) in
    ap (λ (x : OutSlot). if is_out_open x.pipe.phase then record x { pipe = f x.pipe } else x) is
    ∙ ap (λ b. if b then record { endpoint = kept.endpoint; pipe = f (pipe_at j r m) } else slot_at j r m) (open_phase kept.state kept.over (lies_at j m))
    ∙ chosen (is_open kept.state) (record { endpoint = kept.endpoint; pipe = f (pipe_at j r m) }) (slot_at j r m) opened

pub halt_out_for : (j : Joint) (r : Rings) (p : Port) (m : ℕ) → m < 3 → IsTrue (is_open (out_kept j.software (suc m)).state)
    → AllStandFor FS4 j r p → AllStandFor FS4 (run_halt_out j (suc m)) r (halted_at p (suc m))
halt_out_for j r p m few opened all =
    let end = out_end j.table (suc m) in
    let kept = out_kept j.software (suc m) in
    let slot = out_halted (out_slot p.pipes (suc m)) in
    at_address (run_halt_out j (suc m)) r p (with_out_slot p.pipes (suc m) slot) (halted_at p (suc m)).pipes (out_address out_halted in_halted p.pipes m few)
    (out_call j r r p m (halted_end end kept) (steps.halted kept) (out_ring r (suc m)) slot (pipe.halted_ (pipe_at j r m)) few (same_out_ring r m) refl
    (open_changes j r m pipe.halted_ (out_slot p.pipes (suc m)) (part j r p m few all).slot opened)
    (out_halt (suc m) end kept (lies_at j m) (out_ring r (suc m)) (part j r p m few all).stands opened) all)

pub clear_out_for : (j : Joint) (r : Rings) (p : Port) (m : ℕ) → m < 3 → IsTrue (is_open (out_kept j.software (suc m)).state)
    → AllStandFor FS4 j r p → AllStandFor FS4 (run_clear_out j (suc m)) r (cleared_at p (suc m))
clear_out_for j r p m few opened all =
    let end = out_end j.table (suc m) in
    let kept = out_kept j.software (suc m) in
    let slot = out_cleared (out_slot p.pipes (suc m)) in
    at_address (run_clear_out j (suc m)) r p (with_out_slot p.pipes (suc m) slot) (cleared_at p (suc m)).pipes (out_address out_cleared in_cleared p.pipes m few)
    (out_call j r r p m (cleared_end end kept) (steps.cleared kept) (out_ring r (suc m)) slot (pipe.cleared (pipe_at j r m)) few (same_out_ring r m) refl
    (open_changes j r m pipe.cleared (out_slot p.pipes (suc m)) (part j r p m few all).slot opened)
    (out_clear (suc m) end kept (lies_at j m) (out_ring r (suc m)) (part j r p m few all).stands opened) all)

-- The class's calls.

pub arm_out_for : (j : Joint) (r : Rings) (p : Port) (m : ℕ) → m < 3
    → (out_kept j.software (suc m)).state ≡ Rest → (out_kept j.software (suc m)).halted ≡ false → is_core (out_kept j.software (suc m)).endpoint.owner ≡ false
    → length (out_ring r (suc m)).bytes + (out_kept j.software (suc m)).endpoint.size ≤ (out_ring r (suc m)).capacity
    → AllStandFor FS4 j r p → AllStandFor FS4 (run_arm_out j (suc m)) r (armed_at p (suc m))
arm_out_for j r p m few rests free class fits all =
    let end = out_end j.table (suc m) in
    let kept = out_kept j.software (suc m) in
    let change : OutSlot → OutSlot = λ slot. record slot { pipe = pipe.armed slot.pipe } in
    out_call j r r p m (armed_end end kept) (steps.armed kept) (out_ring r (suc m)) (change (out_slot p.pipes (suc m))) (pipe.armed (pipe_at j r m)) few (same_out_ring r m) refl
    (ap change (part j r p m few all).slot)
    (out_arm (suc m) end kept (lies_at j m) (out_ring r (suc m)) (part j r p m few all).stands rests free class fits) all

pub read_out_for : (w : Whole) (p : Port) (m count : ℕ) → m < 3 → AllStandFor FS4 w.joint w.rings p
    → AllStandFor FS4 (run_read_out w (suc m) count).joint (run_read_out w (suc m) count).rings (read_at p (suc m) count)
read_out_for w p m count few all =
    let j = w.joint in
    let r = w.rings in
    let end = out_end j.table (suc m) in
    let kept = out_kept j.software (suc m) in
    let ring = out_ring r (suc m) in
    let change : OutSlot → OutSlot = λ slot. record slot { pipe = pipe.taken count slot.pipe } in
    subst (λ x. AllStandFor FS4 x (run_read_out w (suc m) count).rings (read_at p (suc m) count)) (same_out_parts j m)
    (out_call j r (run_read_out w (suc m) count).rings p m end kept (without_first ring count) (change (out_slot p.pipes (suc m))) (pipe.taken count (pipe_at j r m)) few refl refl
    (ap change (part j r p m few all).slot)
    (out_read (suc m) end kept (lies_at j m) ring count (part j r p m few all).stands) all)

pub drop_out_for : (w : Whole) (p : Port) (m : ℕ) → m < 3 → AllStandFor FS4 w.joint w.rings p
    → AllStandFor FS4 (run_drop_out w (suc m)).joint (run_drop_out w (suc m)).rings (dropped_at p (suc m))
drop_out_for w p m few all =
    let j = w.joint in
    let r = w.rings in
    let end = out_end j.table (suc m) in
    let kept = out_kept j.software (suc m) in
    let ring = out_ring r (suc m) in
    let slot = out_dropped (out_slot p.pipes (suc m)) in
    at_address j (run_drop_out w (suc m)).rings p (with_out_slot p.pipes (suc m) slot) (dropped_at p (suc m)).pipes (out_address out_dropped in_dropped p.pipes m few)
    (subst (λ x. AllStandFor FS4 x (run_drop_out w (suc m)).rings (with_pipes p (with_out_slot p.pipes (suc m) slot))) (same_out_parts j m)
    (out_call j r (run_drop_out w (suc m)).rings p m end kept (emptied ring) slot (pipe.dropped (pipe_at j r m)) few refl refl
    (ap out_dropped (part j r p m few all).slot)
    (out_drop (suc m) end kept (lies_at j m) ring (part j r p m few all).stands) all))

-- A task takes the note.
pub note_out_for : (j : Joint) (r : Rings) (p : Port) (m : ℕ) → m < 3 → AllStandFor FS4 j r p → AllStandFor FS4 (run_note_out j (suc m)) r (noted_out p (suc m))
note_out_for j r p m few all =
    let end = out_end j.table (suc m) in
    let kept = out_kept j.software (suc m) in
    let slot = out_slot_after_task (out_slot p.pipes (suc m)) in
    subst (λ x. AllStandFor FS4 x r (noted_out p (suc m))) (same_out_end j m (steps.noted kept))
    (out_call j r r p m end (steps.noted kept) (out_ring r (suc m)) slot (pipe.after_task (pipe_at j r m)) few (same_out_ring r m) refl
    (ap out_slot_after_task (part j r p m few all).slot)
    (out_note (suc m) end kept (lies_at j m) (out_ring r (suc m)) (part j r p m few all).stands) all)

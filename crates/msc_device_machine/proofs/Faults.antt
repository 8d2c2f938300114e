-- What a task asks of the disk, and how a fault of the disk is told.
use Rattle.std.proofs.Common.{◌≡◌, ◌⊎◌, inl, inr, ℕ, List, Bool, true, false, Option, Some, None, take, length, arith, refl, sym, ap, ◌∙◌}
use Rattle.std.specs.Prelude.{nat_lt, ◌==◌}
use Rattle.std.proofs.lemmas.Bool.{cond_both}
use Rattle.usb_pipe.specs.Own.{Own}
use Rattle.class_pipes.specs.Pipes.{is_shut}
use Rattle.usb_edge.specs.Disk.{Shelf, is_failing, called, block_size}
use Rattle.usb_edge.specs.Stream.{counted}
use Rattle.scsi_core.specs.declared.Sense.{Sense}
use Rattle.scsi_core.specs.declared.Unit.{Unit as Disk}
use Rattle.scsi_core.specs.declared.Move.{Move}
use Rattle.scsi_core.specs.declared.Move.TheVariants as move
use Rattle.scsi_core.specs.Command as scsi
use Rattle.scsi_core.specs.Command.{IsSound as IsSoundUnit, byte}
use Rattle.scsi_core.specs.Laws.{Cause, changed, absent, past, protected, pages, comparison, prevented, unknown, HasCause, sense_left}
use Rattle.scsi_core.proofs.CommandLemmas.{worked_keeps_laws}
use Rattle.msc_device_machine.specs.declared.transport.Flow.{Flow}
use Rattle.msc_device_machine.specs.declared.transport.Transport.{Transport}
use Rattle.msc_device_machine.specs.declared.transport.Transport.TheVariants.{Command, Broken, Sending, Receiving, Status}
use Rattle.msc_device_machine.specs.declared.transport.Due.{Due}
use Rattle.msc_device_machine.specs.declared.transport.Due.TheVariants as due
use Rattle.msc_device_machine.specs.Wrapper.{Wrapper, is_good, wrapper_of}
use Rattle.msc_device_machine.specs.Cases.{Row, row_for}
use Rattle.msc_device_machine.specs.Disk.{Call, Read, Write, Sync, done}
use Rattle.msc_device_machine.specs.Device.{shelf_after}
use Rattle.msc_device_machine.specs.Storage.{Storage, Turn, Step, turned, expected, intended, unmoved, moving, by_row, commanded, wrapped, gathered, sent_on, moved_by, noted, with_packet_read, packet, at_packet, at_end, by_notes, unless_broken, taken_up, asks, stored, resumed, call_of, worked}
use Rattle.msc_device_machine.specs.Laws.{OneCall, FaultsAreTold, fault_of}

-- One call.

abbrev Once : Shelf → Shelf → Type 0
Once old new = ((new ≡ old) ⊎ (new.calls ≡ counted old.calls)) × (new.fails ≡ old.fails)

called_once : (call : Call) (shelf : Shelf) → Once shelf (called (done call shelf))
called_once (Read lba) shelf = (inr refl, refl)
called_once (Write lba block) shelf = (inr refl, refl)
called_once Sync shelf = (inr refl, refl)

once : (call : Option Call) (shelf : Shelf) → Once shelf (shelf_after call shelf)
once None shelf = (inl refl, refl)
once (Some call) shelf = cond_both (is_failing shelf) _ _ (Once shelf) (λ _. (inr refl, refl)) (λ _. called_once call shelf)

pub one_call : OneCall
one_call d own = once (call_of d.storage own) d.shelf

-- A fault is told by the sense.

abbrev FaultOf : Due → Storage → Option (List ℕ) → Turn → Type 0
FaultOf d s answer new = (call : Call) → asks d s ≡ Some call → answer ≡ None → new.storage.unit.sense ≡ fault_of call

same_call : (a b : Call) → ◌≡◌ {A = Option Call} (Some a) (Some b) → a ≡ b
same_call a b e = cc

no_call : (b : Call) → ◌≡◌ {A = Option Call} None (Some b) → ⊥
no_call b e = cc

no_answer : (bytes : List ℕ) → ◌≡◌ {A = Option (List ℕ)} (Some bytes) None → ⊥
no_answer bytes e = cc

resumed_faults : (t : Turn) (d : Due) (answer : Option (List ℕ)) → FaultOf d t.storage answer (resumed t d answer)
resumed_faults t due.Nothing answer = λ call e a. absurd (no_call call e)
resumed_faults t (due.Read flow) (Some bytes) = λ call e a. absurd (no_answer bytes a)
resumed_faults t (due.Read flow) None = λ call e a. ap fault_of (same_call (Read flow.next) call e)
resumed_faults t (due.Write flow is_over) (Some bytes) = λ call e a. absurd (no_answer bytes a)
resumed_faults t (due.Write flow is_over) None = λ call e a. ap fault_of (same_call (Write flow.next (take block_size t.storage.block)) call e)
resumed_faults t (due.Sync tag host is_in) (Some bytes) = λ call e a. absurd (no_answer bytes a)
resumed_faults t (due.Sync tag host is_in) None = λ call e a. ap fault_of (same_call Sync call e)

faults_at : (b : Bool) (s : Storage) (own : Own) (answer : Option (List ℕ)) → is_shut own ≡ b → (call : Call) → call_of s own ≡ Some call → answer ≡ None → (worked s own answer).storage.unit.sense ≡ fault_of call
faults_at true s own answer e call h a = let none = rw e at h in absurd (no_call call none)
faults_at false s own answer e call h a =
    let asked = rw e at h in rw e (resumed_faults (taken_up s own).turn (taken_up s own).due answer call asked a)

-- And no other way: no command leaves such a sense.

no_cause : (code : ℕ) (unit : Disk) (cdb : List ℕ) (s : Sense) → Cause code unit cdb s → s.key ≡ 3 → ⊥
no_cause code unit cdb s (changed a) e = omega (arith, e)
no_cause code unit cdb s (absent a b) e = omega (arith, e)
no_cause code unit cdb s (past a b c d) e = omega (arith, e)
no_cause code unit cdb s (protected a b c d f) e = omega (arith, e)
no_cause code unit cdb s (pages a b) e = omega (arith, e)
no_cause code unit cdb s (comparison a b c d f) e = omega (arith, e)
no_cause code unit cdb s (prevented a b c d) e = omega (arith, e)
no_cause code unit cdb s (unknown a b c) e = omega (arith, e)

no_fault : (code : ℕ) (unit : Disk) (cdb : List ℕ) (m : Move) → HasCause code unit cdb m → (sense_left m).key ≡ 3 → ⊥
no_fault code unit cdb (move.Fail s) h e = no_cause code unit cdb s h e
no_fault code unit cdb move.None h e = omega (arith, e)
no_fault code unit cdb (move.In bytes) h e = omega (arith, e)
no_fault code unit cdb (move.Read lba count) h e = omega (arith, e)
no_fault code unit cdb (move.Write lba count) h e = omega (arith, e)
no_fault code unit cdb move.Sync h e = omega (arith, e)

command_fault : (unit : Disk) (cdb : List ℕ) → IsSoundUnit unit → (scsi.worked unit cdb).leaves.sense.key ≡ 3 → ⊥
command_fault unit cdb s e =
    let l = worked_keeps_laws unit cdb s in
    no_fault (byte 0 cdb) unit cdb (scsi.worked unit cdb).moves l.cause (ap (λ (x : Sense). x.key) (sym l.sense) ∙ e)

-- what a step before the disk's answer leaves of the sense
abbrev Told : Sense → Step → Type 0
Told old step = step.turn.storage.unit.sense.key ≡ 3 → old.key ≡ 3

unmoved_unit : (t : Turn) (w : Wrapper) (r : Row) (m : Move) → (unmoved t w r m).turn.storage.unit ≡ t.storage.unit
unmoved_unit t w r move.None = refl
unmoved_unit t w r (move.In bytes) = refl
unmoved_unit t w r (move.Read lba count) = refl
unmoved_unit t w r (move.Write lba count) = refl
unmoved_unit t w r move.Sync = refl
unmoved_unit t w r (move.Fail sense) = refl

moving_unit : (t : Turn) (w : Wrapper) (r : Row) (m : Move) → (moving t w r m).turn.storage.unit ≡ t.storage.unit
moving_unit t w r move.None = refl
moving_unit t w r (move.In bytes) = refl
moving_unit t w r (move.Read lba count) = refl
moving_unit t w r (move.Write lba count) = refl
moving_unit t w r move.Sync = refl
moving_unit t w r (move.Fail sense) = refl

by_row_unit : (t : Turn) (w : Wrapper) (r : Row) (m : Move) → (by_row t w r m).turn.storage.unit ≡ t.storage.unit
by_row_unit t w r m =
    let P : Step → Type 0 = λ step. step.turn.storage.unit ≡ t.storage.unit in
    cond_both r.is_phase_error _ _ P (λ _. refl) (λ _. cond_both r.moves _ _ P (λ _. moving_unit t w r m) (λ _. unmoved_unit t w r m))

commanded_told : (t : Turn) (w : Wrapper) → IsSoundUnit t.storage.unit → Told t.storage.unit.sense (commanded t w)
commanded_told t w s =
    let o = scsi.worked t.storage.unit w.command in
    let u = by_row_unit (record t { storage = record t.storage { unit = o.leaves } }) w (row_for (expected w.is_in w.length) (intended o.moves)) o.moves in
    λ e. absurd (command_fault t.storage.unit w.command s (ap (λ (x : Disk). x.sense.key) (sym u) ∙ e))

wrapped_told : (t : Turn) (bytes : List ℕ) → IsSoundUnit t.storage.unit → Told t.storage.unit.sense (wrapped t bytes)
wrapped_told t bytes s =
    cond_both (is_good bytes) _ _ (Told t.storage.unit.sense) (λ _. commanded_told t (wrapper_of bytes) s) (λ _. λ e. e)

gathered_told : (t : Turn) (flow : Flow) (bytes : List ℕ) (is_over : Bool) → Told t.storage.unit.sense (gathered t flow bytes is_over)
gathered_told t flow bytes is_over =
    cond_both (nat_lt (length bytes) block_size) _ _ (Told t.storage.unit.sense) (λ _. λ e. e) (λ _. λ e. e)

sent_on_told : (t : Turn) (flow : Flow) → Told t.storage.unit.sense (sent_on t flow)
sent_on_told t flow = cond_both (flow.moved == flow.device) _ _ (Told t.storage.unit.sense) (λ _. λ e. e) (λ _. λ e. e)

at_packet_told : (transport : Transport) (t : Turn) (bytes : List ℕ) → IsSoundUnit t.storage.unit → Told t.storage.unit.sense (at_packet transport t bytes)
at_packet_told Command t bytes s = wrapped_told t bytes s
at_packet_told (Receiving flow) t bytes s = gathered_told t _ _ _
at_packet_told Broken t bytes s = λ e. e
at_packet_told (Sending flow loaded) t bytes s = λ e. e
at_packet_told Status t bytes s = λ e. e

at_end_told : (transport : Transport) (t : Turn) → Told t.storage.unit.sense (at_end transport t)
at_end_told (Sending flow loaded) t = sent_on_told t (moved_by flow loaded)
at_end_told Command t = λ e. e
at_end_told (Receiving flow) t = λ e. e
at_end_told Broken t = λ e. e
at_end_told Status t = λ e. e

by_notes_told : (s : Storage) (own : Own) → IsSoundUnit s.unit → Told s.unit.sense (by_notes s own)
by_notes_told s own h =
    cond_both s.came _ _ (Told s.unit.sense)
    (λ _. at_packet_told s.transport (turned (noted s) (with_packet_read own)) (packet own) h)
    (λ _. cond_both s.ended _ _ (Told s.unit.sense) (λ _. at_end_told s.transport (turned (noted s) own)) (λ _. λ e. e))

unless_broken_told : (transport : Transport) (s : Storage) (own : Own) → IsSoundUnit s.unit → Told s.unit.sense (unless_broken transport s own)
unless_broken_told Broken s own h = λ e. e
unless_broken_told Command s own h = by_notes_told s own h
unless_broken_told (Sending flow loaded) s own h = by_notes_told s own h
unless_broken_told (Receiving flow) s own h = by_notes_told s own h
unless_broken_told Status s own h = by_notes_told s own h

taken_up_told : (s : Storage) (own : Own) → IsSoundUnit s.unit → Told s.unit.sense (taken_up s own)
taken_up_told s own h =
    cond_both s.reset _ _ (Told s.unit.sense) (λ _. λ e. e) (λ _. unless_broken_told s.transport s own h)

abbrev Failed : Due → Storage → Option (List ℕ) → Type 0
Failed d s answer = (call : Call) × (asks d s ≡ Some call) × (answer ≡ None)

stored_unit : (t : Turn) (flow : Flow) (is_over : Bool) → (stored t flow is_over).storage.unit ≡ t.storage.unit
stored_unit t flow is_over =
    cond_both (flow.moved == flow.device) _ _ (λ (new : Turn). new.storage.unit ≡ t.storage.unit) (λ _. refl) (λ _. refl)

resumed_told : (t : Turn) (d : Due) (answer : Option (List ℕ)) → ((resumed t d answer).storage.unit ≡ t.storage.unit) ⊎ Failed d t.storage answer
resumed_told t due.Nothing answer = inl refl
resumed_told t (due.Read flow) (Some bytes) = inl refl
resumed_told t (due.Read flow) None = inr (Read flow.next, refl, refl)
resumed_told t (due.Write flow is_over) (Some bytes) = inl (stored_unit t flow is_over)
resumed_told t (due.Write flow is_over) None = inr (Write flow.next (take block_size t.storage.block), refl, refl)
resumed_told t (due.Sync tag host is_in) (Some bytes) = inl refl
resumed_told t (due.Sync tag host is_in) None = inr (Sync, refl, refl)

told_at : (b : Bool) (s : Storage) (own : Own) (answer : Option (List ℕ)) → is_shut own ≡ b → IsSoundUnit s.unit
    → (worked s own answer).storage.unit.sense.key ≡ 3 → (s.unit.sense.key ≡ 3) ⊎ ((call : Call) × (call_of s own ≡ Some call) × (answer ≡ None))
told_at true s own answer e h k = let kept = rw e at k in inl kept
told_at false s own answer e h k =
    let step = taken_up s own in
    let key : (resumed step.turn step.due answer).storage.unit.sense.key ≡ 3 = rw e at k in
    elim (resumed_told step.turn step.due answer) [
      | inl same ↦ inl (taken_up_told s own h (ap (λ (x : Disk). x.sense.key) (sym same) ∙ key))
      | inr failed ↦ inr (failed.0, rw e failed.1, failed.2)
    ]

pub faults_are_told : FaultsAreTold
faults_are_told s own answer h = (faults_at (is_shut own) s own answer refl, told_at (is_shut own) s own answer refl h.unit)

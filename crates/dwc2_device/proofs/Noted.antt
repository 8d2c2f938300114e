-- A note that is taken makes of the device what the task that takes it does.
use Rattle.std.proofs.Common.{◌≡◌, ℕ, zero, suc, ◌<◌, ◌≤◌, List, [], ◌∷◌, map, Bool, true, false, Option, Some, None, refl, ap, sym, ◌∙◌, arith, subst}
use Rattle.std.specs.Prelude.{if◌then◌else◌, slice_index_or, slice_set}
use Rattle.dwc2_regs.specs.declared.access.TheConstants.{FS4}
use Rattle.device_machine.specs.declared.control.Stage.{Stage}
use Rattle.device_machine.specs.declared.control.Stage.TheVariants.{Sent, Came}
use Rattle.device_machine.specs.Pipes.{no_out_slot, no_in_slot, out_slot_after_task, in_slot_after_task}
use Rattle.device_rings.specs.Rings.{Rings}
use Rattle.device_relation.specs.Software.{Joint, out_kept, in_kept}
use Rattle.device_relation.specs.Port.{Port, AllStandFor, port_of, with_pipes, noted_out, noted_in}
use Rattle.device_relation.specs.Run.{run_note_out, run_note_in}
use Rattle.device_relation.proofs.Pipes.{same_pipes}
use Rattle.device_relation.proofs.Runs.{Ends, ended, ends, itself, other_notes}
use Rattle.device_relation.proofs.OutPipeCalls.{note_out_for}
use Rattle.device_relation.proofs.InPipeCalls.{note_in_for}
use Rattle.dwc2_device.specs.declared.notes.Note.{Note}
use Rattle.dwc2_device.specs.declared.notes.Note.TheVariants.{Reset, Ep0In, Ep0Out, Setup, Out, In}
use Rattle.dwc2_device.specs.Keeps.{Keeps}
use Rattle.dwc2_device.specs.Notes.{NotesKeep, first_note, first_zero_note, note_of, note_or, zero_noted, without_zero_note, pipe_note, first_of, is_out_posted, is_in_posted, out_posted, in_posted, joint_noted, port_noted, pipes_noted}

-- other notes of endpoint 0
others : (j : Joint) (r : Rings) (p : Port) (reset : Bool) (finished : Option Stage) (request : Option (List ℕ)) → AllStandFor FS4 j r p
    → AllStandFor FS4 (record j { software = record j.software { reset = reset; finished = finished; request = request } }) r (record p { reset = reset; finished = finished; request = request })
others j r p reset finished request a = record {
  zero = record { stands = other_notes j.table j.software p.bus reset finished request a.zero.stands; heard = a.zero.heard; next_address = a.zero.next_address; reset = refl; finished = refl; request = refl };
  pipes = same_pipes j.table j.table j.software (record j.software { reset = reset; finished = finished; request = request }) r p.pipes (record { outs = refl; ins = refl; out_kepts = refl; in_kepts = refl; lie = λ n. refl }) a.pipes;
}

-- the numbers of notes are those of endpoints
abbrev IsNoteOf : Option Note → Type 0
IsNoteOf None = Unit {0}
IsNoteOf (Some Reset) = Unit {0}
IsNoteOf (Some Ep0In) = Unit {0}
IsNoteOf (Some (Ep0Out bytes)) = Unit {0}
IsNoteOf (Some (Setup bytes)) = Unit {0}
IsNoteOf (Some (Out n)) = (1 ≤ n) × (n ≤ 3)
IsNoteOf (Some (In n)) = (1 ≤ n) × (n ≤ 3)

abbrev IsFirst : Option ℕ → Type 0
IsFirst None = Unit {0}
IsFirst (Some n) = (1 ≤ n) × (n ≤ 3)

three_of : (holds : ℕ → Bool) → IsFirst (first_of holds 3 1)
three_of holds = by_tests (holds 1) (holds 2) (holds 3)
  where
    by_tests : (a b c : Bool) → IsFirst (if a then Some 1 else if b then Some 2 else if c then Some 3 else None)
    by_tests true b c = (omega arith, omega arith)
    by_tests false true c = (omega arith, omega arith)
    by_tests false false true = (omega arith, omega arith)
    by_tests false false false = tt

pipe_numbers : (outs ins : Option ℕ) → IsFirst outs → IsFirst ins → IsNoteOf (pipe_note outs ins)
pipe_numbers (Some n) ins h k = h
pipe_numbers None (Some n) h k = k
pipe_numbers None None h k = tt

note_numbers : (reset : Bool) (finished : Option Stage) (request : Option (List ℕ)) (other : Option Note) → IsNoteOf other → IsNoteOf (note_or (note_of reset finished request) other)
note_numbers true finished request other h = tt
note_numbers false (Some Sent) request other h = tt
note_numbers false (Some (Came bytes)) request other h = tt
note_numbers false None (Some bytes) other h = tt
note_numbers false None None other h = h

-- a note of endpoint 0 or of a reset is taken in the software alone
noted_by : (j : Joint) (known : Note) (first : Option Note) → Some known ≡ first → joint_noted j (Some known) ≡ record j { software = zero_noted j.software (Some known) }
    → joint_noted j first ≡ record j { software = zero_noted j.software first }
noted_by j known first e h = subst (λ n. joint_noted j n ≡ record j { software = zero_noted j.software n }) e h

of_zero : (j : Joint) (reset : Bool) (finished : Option Stage) (request : Option (List ℕ)) (note : Note) → note_of reset finished request ≡ Some note
    → joint_noted j (Some note) ≡ record j { software = zero_noted j.software (Some note) }
of_zero j true finished request note e = noted_by j Reset (Some note) e refl
of_zero j false (Some Sent) request note e = noted_by j Ep0In (Some note) e refl
of_zero j false (Some (Came bytes)) request note e = noted_by j (Ep0Out bytes) (Some note) e refl
of_zero j false None (Some bytes) note e = noted_by j (Setup bytes) (Some note) e refl
of_zero j false None None note e = absurd (cc e)

pub zero_first : (j : Joint) (note : Note) → Some note ≡ first_zero_note j.software → joint_noted j (Some note) ≡ record j { software = without_zero_note j.software }
zero_first j note e =
    of_zero j j.software.reset j.software.finished j.software.request note (sym e) ∙ ap (λ n. record j { software = zero_noted j.software n }) e

small : (m : ℕ) → suc m ≤ 3 → m < 3
small m h = omega (arith, h)

noted : (j : Joint) (r : Rings) (p : Port) (note : Option Note) → IsNoteOf note → p.reset ≡ j.software.reset → p.finished ≡ j.software.finished → p.request ≡ j.software.request → AllStandFor FS4 j r p
    → AllStandFor FS4 (joint_noted j note) r (port_noted p note)
noted j r p None h a b d all = all
noted j r p (Some Reset) h a b d all =
    subst (λ f. AllStandFor FS4 (joint_noted j (Some Reset)) r (record p { reset = false; finished = f })) (sym b)
    (subst (λ q. AllStandFor FS4 (joint_noted j (Some Reset)) r (record p { reset = false; finished = j.software.finished; request = q })) (sym d) (others j r p false j.software.finished j.software.request all))
noted j r p (Some Ep0In) h a b d all =
    subst (λ f. AllStandFor FS4 (joint_noted j (Some Ep0In)) r (record p { reset = f; finished = None })) (sym a)
    (subst (λ q. AllStandFor FS4 (joint_noted j (Some Ep0In)) r (record p { reset = j.software.reset; finished = None; request = q })) (sym d) (others j r p j.software.reset None j.software.request all))
noted j r p (Some (Ep0Out bytes)) h a b d all =
    subst (λ f. AllStandFor FS4 (joint_noted j (Some Ep0In)) r (record p { reset = f; finished = None })) (sym a)
    (subst (λ q. AllStandFor FS4 (joint_noted j (Some Ep0In)) r (record p { reset = j.software.reset; finished = None; request = q })) (sym d) (others j r p j.software.reset None j.software.request all))
noted j r p (Some (Setup bytes)) h a b d all =
    subst (λ f. AllStandFor FS4 (joint_noted j (Some (Setup bytes))) r (record p { reset = f; request = None })) (sym a)
    (subst (λ q. AllStandFor FS4 (joint_noted j (Some (Setup bytes))) r (record p { reset = j.software.reset; finished = q; request = None })) (sym b) (others j r p j.software.reset j.software.finished None all))
noted j r p (Some (Out zero)) h a b d all = absurd (omega (arith, h.0))
noted j r p (Some (Out (suc m))) h a b d all = note_out_for j r p m (small m h.1) all
noted j r p (Some (In zero)) h a b d all = absurd (omega (arith, h.0))
noted j r p (Some (In (suc m))) h a b d all = note_in_for j r p m (small m h.1) all

pub notes_keep : NotesKeep FS4
notes_keep j r s =
    let note = first_note FS4 j.software in
    let numbers : IsNoteOf note = note_numbers j.software.reset j.software.finished j.software.request (pipe_note (out_posted FS4 j.software) (in_posted FS4 j.software))
    (pipe_numbers (out_posted FS4 j.software) (in_posted FS4 j.software) (three_of (λ n. is_out_posted (out_kept j.software n).state)) (three_of (λ n. is_in_posted (in_kept j.software n).state))) in
    let end : Ends (joint_noted j note) r (port_noted (port_of j r) note) =
    ended (joint_noted j note) r (port_noted (port_of j r) note) (noted j r (port_of j r) note numbers refl refl refl (itself j r s)) in
    (end.sound, end.port)

-- A task that takes up all of them.

-- what is none past the third changes in the first three alone
rest_same : {A : Type 0} (f : A → A) (d : A) → f d ≡ d → (xs : List A) → ((i : ℕ) → slice_index_or xs i d ≡ d) → map f xs ≡ xs
rest_same f d e [] h = refl
rest_same f d e (x ∷ xs) h = ap (λ y. y ∷ map f xs) (ap f (h 0) ∙ e ∙ sym (h 0)) ∙ ap (λ ys. x ∷ ys) (rest_same f d e xs (λ i. h (suc i)))

abbrev changed : {A : Type 0} → (A → A) → A → List A → ℕ → List A
changed f d xs i = slice_set xs i (f (slice_index_or xs i d))

three_change : {A : Type 0} (f : A → A) (d : A) → f d ≡ d → (xs : List A) → ((i : ℕ) → 3 ≤ i → slice_index_or xs i d ≡ d)
    → changed f d (changed f d (changed f d xs 0) 1) 2 ≡ map f xs
three_change f d e [] h = refl
three_change f d e (x ∷ []) h = refl
three_change f d e (x ∷ y ∷ []) h = refl
three_change f d e (x ∷ y ∷ z ∷ xs) h = ap (λ zs. f x ∷ f y ∷ f z ∷ zs) (sym (rest_same f d e xs (λ i. h (suc (suc (suc i))) (omega arith))))

all_for : (j : Joint) (r : Rings) (p : Port) → AllStandFor FS4 j r p
    → AllStandFor FS4 (run_note_in (run_note_in (run_note_in (run_note_out (run_note_out (run_note_out j 1) 2) 3) 1) 2) 3) r (noted_in (noted_in (noted_in (noted_out (noted_out (noted_out p 1) 2) 3) 1) 2) 3)
all_for j r p a =
    note_in_for _ r _ 2 (omega arith)
    (note_in_for _ r _ 1 (omega arith)
    (note_in_for _ r _ 0 (omega arith) (note_out_for _ r _ 2 (omega arith) (note_out_for _ r _ 1 (omega arith) (note_out_for j r p 0 (omega arith) a)))))

all_noted : (j : Joint) (r : Rings) (p : Port) → AllStandFor FS4 j r p → noted_in (noted_in (noted_in (noted_out (noted_out (noted_out p 1) 2) 3) 1) 2) 3 ≡ pipes_noted p
all_noted j r p a =
    ap (λ xs. with_pipes p (record { outs = xs; ins = changed in_slot_after_task no_in_slot (changed in_slot_after_task no_in_slot (changed in_slot_after_task no_in_slot p.pipes.ins 0) 1) 2 }))
    (three_change out_slot_after_task no_out_slot refl p.pipes.outs (λ i h. a.pipes.out_beyond i h))
    ∙ ap (λ xs. with_pipes p (record { outs = map out_slot_after_task p.pipes.outs; ins = xs })) (three_change in_slot_after_task no_in_slot refl p.pipes.ins (λ i h. a.pipes.in_beyond i h))

pub notes_taken : (old new : Joint) → new ≡ run_note_in (run_note_in (run_note_in (run_note_out (run_note_out (run_note_out old 1) 2) 3) 1) 2) 3 → Keeps pipes_noted old new
notes_taken old new e r s =
    let a = itself old r s in
    let x : Ends new r (pipes_noted (port_of old r)) =
    subst (λ p. Ends new r p) (all_noted old r (port_of old r) a) (ends new _ r _ e (all_for old r (port_of old r) a)) in
    (x.sound, x.port)

-- The end of a session closes each endpoint other than 0, and empties all rings.
use Rattle.std.proofs.Common.{◌≡◌, ℕ, zero, suc, ◌≤◌, List, [], ◌∷◌, length, map, refl, ap, sym, ◌∙◌, arith, subst}
use Rattle.std.specs.Prelude.{slice_index_or, slice_set}
use Rattle.std.proofs.Math.ListN.{get_or-eq_default}
use Rattle.usb_ring.specs.Ring.{Ring}
use Rattle.dwc2_regs.specs.declared.access.TheConstants.{FS4}
use Rattle.device_rings.specs.Rings.{Rings, out_ring, with_out_ring, emptied, all_emptied, no_ring}
use Rattle.device_machine.specs.Pipes.{Pipes, out_slot, in_slot, with_out_slot, with_in_slot, out_closed, in_closed, no_out_slot, no_in_slot}
use Rattle.device_machine.specs.Pipes as machine
use Rattle.device_relation.specs.Software.{Joint}
use Rattle.device_relation.specs.Port.{Port, AllStandFor, with_pipes, without_endpoints}
use Rattle.device_relation.specs.Run.{Whole, close_out, outs_closed, close_in, ins_closed, run_close}
use Rattle.device_relation.proofs.OutPipeCalls.{close_out_for}
use Rattle.device_relation.proofs.InPipeCalls.{close_in_for}

-- Lists of which the first three change.

abbrev one_set : {A : Type 0} → (A → A) → A → ℕ → List A → List A
one_set f d n xs = slice_set xs n (f (slice_index_or xs n d))

abbrev three_set : {A : Type 0} → (A → A) → A → List A → List A
three_set f d xs = one_set f d 2 (one_set f d 1 (one_set f d 0 xs))

fixed : {A : Type 0} (f : A → A) (d : A) (xs : List A) → ((n : ℕ) → f (slice_index_or xs n d) ≡ slice_index_or xs n d) → map f xs ≡ xs
fixed f d [] h = refl
fixed f d (x ∷ xs) h = ap (λ y. y ∷ map f xs) (h zero) ∙ ap (λ ys. x ∷ ys) (fixed f d xs (λ n. h (suc n)))

-- where the others are fixed, all change
three_are : {A : Type 0} (f : A → A) (d : A) (xs : List A) → ((n : ℕ) → f (slice_index_or xs (suc (suc (suc n))) d) ≡ slice_index_or xs (suc (suc (suc n))) d) → three_set f d xs ≡ map f xs
three_are f d [] h = refl
three_are f d (a ∷ []) h = refl
three_are f d (a ∷ b ∷ []) h = refl
three_are f d (a ∷ b ∷ c ∷ xs) h = ap (λ ys. f a ∷ f b ∷ f c ∷ ys) (sym (fixed f d xs h))

third : (n : ℕ) → 3 ≤ suc (suc (suc n))
third n = omega arith

-- The rings.

rings_are : (rings : List Ring) → length rings ≡ 3 → three_set emptied no_ring rings ≡ map emptied rings
rings_are rings e = three_are emptied no_ring rings (λ n. ap emptied (none n) ∙ sym (none n))
  where
    none : (n : ℕ) → slice_index_or rings (suc (suc (suc n))) no_ring ≡ no_ring
    none n = get_or-eq_default rings no_ring (subst (λ k. k ≤ suc (suc (suc n))) (sym e) (third n))

empty_again : (rings : List Ring) → map emptied (map emptied rings) ≡ map emptied rings
empty_again [] = refl
empty_again (x ∷ xs) = ap (λ ys. emptied x ∷ ys) (empty_again xs)

-- those of OUT endpoints, then those of IN endpoints, then all
rings_end : (r : Rings) → length r.outs ≡ 3 → length r.ins ≡ 3
    → record { outs = three_set emptied no_ring r.outs; ins = three_set emptied no_ring r.ins } ≡ all_emptied (record r { ins = three_set emptied no_ring r.ins })
rings_end r outs ins =
    ap (λ xs. record { outs = xs; ins = three_set emptied no_ring r.ins }) (rings_are r.outs outs)
    ∙ ap (λ xs. record { outs = map emptied r.outs; ins = xs }) (rings_are r.ins ins ∙ sym (empty_again r.ins) ∙ sym (ap (map emptied) (rings_are r.ins ins)))

-- The pipes.

outs_end : (q : Pipes) → ((n : ℕ) → 3 ≤ n → out_slot q (suc n) ≡ no_out_slot) → three_set out_closed no_out_slot q.outs ≡ map out_closed q.outs
outs_end q h = three_are out_closed no_out_slot q.outs (λ n. ap out_closed (h (suc (suc (suc n))) (third n)) ∙ sym (h (suc (suc (suc n))) (third n)))

ins_end : (q : Pipes) → ((n : ℕ) → 3 ≤ n → in_slot q (suc n) ≡ no_in_slot) → three_set in_closed no_in_slot q.ins ≡ map in_closed q.ins
ins_end q h = three_are in_closed no_in_slot q.ins (λ n. ap in_closed (h (suc (suc (suc n))) (third n)) ∙ sym (h (suc (suc (suc n))) (third n)))

pipes_end : (q : Pipes) → ((n : ℕ) → 3 ≤ n → out_slot q (suc n) ≡ no_out_slot) → ((n : ℕ) → 3 ≤ n → in_slot q (suc n) ≡ no_in_slot)
    → record { outs = three_set out_closed no_out_slot q.outs; ins = three_set in_closed no_in_slot q.ins } ≡ machine.pipes_closed q
pipes_end q outs ins =
    ap (λ xs. record { outs = xs; ins = three_set in_closed no_in_slot q.ins }) (outs_end q outs)
    ∙ ap (λ xs. record { outs = map out_closed q.outs; ins = xs }) (ins_end q ins)

-- Each of three.

abbrev with_empty : Rings → ℕ → Rings
with_empty r n = with_out_ring r n (emptied (out_ring r n))

abbrev without_out : Port → ℕ → Port
without_out p n = with_pipes p (with_out_slot p.pipes n (out_closed (out_slot p.pipes n)))

abbrev without_in : Port → ℕ → Port
without_in p n = with_pipes p (with_in_slot p.pipes n (in_closed (in_slot p.pipes n)))

outs_for : (j : Joint) (r : Rings) (p : Port) → AllStandFor FS4 j r p
    → AllStandFor FS4 (outs_closed 3 1 j) (with_empty (with_empty (with_empty r 1) 2) 3) (without_out (without_out (without_out p 1) 2) 3)
unfolding outs_closed
outs_for j r p all =
    let j1 = close_out j 1 in
    let r1 = with_empty r 1 in
    let p1 = without_out p 1 in
    close_out_for (close_out j1 2) (with_empty r1 2) (without_out p1 2) 2 (omega arith)
    (close_out_for j1 r1 p1 1 (omega arith) (close_out_for j r p 0 (omega arith) all))

ins_for : (w : Whole) (p : Port) → AllStandFor FS4 w.joint w.rings p
    → AllStandFor FS4 (ins_closed 3 1 w).joint (ins_closed 3 1 w).rings (without_in (without_in (without_in p 1) 2) 3)
unfolding ins_closed
ins_for w p all =
    let w1 = close_in w 1 in
    let p1 = without_in p 1 in
    close_in_for (close_in w1 2) (without_in p1 2) 2 (omega arith)
    (close_in_for w1 p1 1 (omega arith) (close_in_for w p 0 (omega arith) all))

-- when rings are emptied makes no difference to registers and software
same_joint : (j : Joint) (r r' : Rings) → (ins_closed 3 1 (record { joint = j; rings = r' })).joint ≡ (ins_closed 3 1 (record { joint = j; rings = r })).joint
unfolding ins_closed
same_joint j r r' = refl

rings_closed : (j : Joint) (r : Rings) → (ins_closed 3 1 (record { joint = j; rings = r })).rings ≡ record r { ins = three_set emptied no_ring r.ins }
unfolding ins_closed
rings_closed j r = refl

pub close_for : (w : Whole) (p : Port) → AllStandFor FS4 w.joint w.rings p → AllStandFor FS4 (run_close FS4 w).joint (run_close FS4 w).rings (without_endpoints p)
close_for w p all =
    let j = outs_closed 3 1 w.joint in
    let r = w.rings in
    let r3 = with_empty (with_empty (with_empty r 1) 2) 3 in
    let p3 = without_out (without_out (without_out p 1) 2) 3 in
    let w3 : Whole = record { joint = j; rings = r3 } in
    let ps = all.pipes in
    let stood : AllStandFor FS4 (ins_closed 3 1 w3).joint (ins_closed 3 1 w3).rings (without_in (without_in (without_in p3 1) 2) 3) = ins_for w3 p3 (outs_for w.joint r p all) in
    let emptied_all : (ins_closed 3 1 w3).rings ≡ (run_close FS4 w).rings =
    rings_closed j r3 ∙ rings_end r ps.out_rings ps.in_rings ∙ ap all_emptied (sym (rings_closed j r)) in
    subst (λ x. AllStandFor FS4 (run_close FS4 w).joint (run_close FS4 w).rings (with_pipes p x)) (pipes_end p.pipes ps.out_beyond ps.in_beyond)
    (subst (λ x. AllStandFor FS4 (run_close FS4 w).joint x (without_in (without_in (without_in p3 1) 2) 3)) emptied_all
    (subst (λ x. AllStandFor FS4 x (ins_closed 3 1 w3).rings (without_in (without_in (without_in p3 1) 2) 3)) (same_joint j r r3) stood))

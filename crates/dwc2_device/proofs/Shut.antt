-- Which endpoints are halted; a halt, and its end, where no endpoint is open.
use Rattle.std.proofs.Common.{◌≡◌, ℕ, zero, suc, ◌+◌, ◌-◌, ◌<◌, ◌≤◌, List, [], ◌∷◌, ◌++◌, map, filter, length, Bool, true, false, refl, ap, sym, ◌∙◌, arith}
use Rattle.std.specs.Prelude.{not, nat_lt, if◌then◌else◌}
use Rattle.std.proofs.lemmas.Bool.Decides.{nat_tests}
use Rattle.std.proofs.lemmas.List.{get_or_past, set-get_or}
use Rattle.dwc2_regs.specs.declared.access.TheConstants.{FS4}
use Rattle.device_arrivals.specs.Arrivals.{Landed}
use Rattle.device_machine.specs.Packets.{numbers_from}
use Rattle.device_machine.specs.Pipes as machine
use Rattle.device_machine.specs.Pipes.{Pipes, OutSlot, InSlot, no_out_slot, no_in_slot, out_slot, in_slot, with_out_slot, with_in_slot, changed_at, is_out_open, in_hears, out_halted, in_halted, out_cleared, in_cleared, addresses_of, halted_addresses}
use Rattle.device_rings.specs.Rings as rings
use Rattle.device_rings.specs.Rings.{Rings}
use Rattle.endpoint_relation.specs.declared.out_.OutState.{OutState}
use Rattle.endpoint_relation.specs.declared.out_.OutState.TheVariants as out_state
use Rattle.endpoint_relation.specs.declared.in_.InState.{InState}
use Rattle.endpoint_relation.specs.declared.in_.InState.TheVariants as in_state
use Rattle.endpoint_relation.specs.declared.out_.OutEndpoint.{OutEndpoint}
use Rattle.endpoint_relation.specs.declared.in_.InEndpoint.{InEndpoint}
use Rattle.endpoint_relation.specs.OutRelation.{is_open, phase_of, not_open}
use Rattle.endpoint_relation.specs.InRelation.{in_phase, in_unused}
use Rattle.device_pipe.specs.OutPipe as outward
use Rattle.device_pipe.specs.InPipe as inward
use Rattle.device_pipe.specs.InPipe.{is_closed}
use Rattle.device_relation.specs.Software.{Joint, out_kept, in_kept}
use Rattle.device_relation.specs.PipeRelation.{IsSound, pipes_of, out_slot_of, in_slot_of}
use Rattle.device_relation.specs.Port.{port_of, with_pipes, halted_at, cleared_at}
use Rattle.dwc2_device.specs.Keeps.{Keeps}
use Rattle.dwc2_device.specs.Calls.{is_in_open, is_open_at, is_halted_at}

-- Which endpoints are open.

few : (m : ℕ) → nat_lt m 3 ≡ true → m < 3
few m e = grind (arith, nat_tests)

many : (m : ℕ) → nat_lt m 3 ≡ false → 3 ≤ m
many m e = grind (arith, nat_tests)

past : (n m : ℕ) → n ≡ 3 → 3 ≤ m → n ≤ m
past n m e h = omega (arith, e, h)

out_phase : (state : OutState) (over : Bool) (lies : List Landed) → is_out_open (phase_of state over lies) ≡ is_open state
out_phase out_state.Closed over lies = refl
out_phase out_state.Rest over lies = refl
out_phase out_state.Armed over [] = refl
out_phase out_state.Armed over (x ∷ xs) = refl
out_phase out_state.Posted over lies = refl
out_phase out_state.Stale over lies = refl

in_phase_is : (state : InState) (n : ℕ) (left : List (List ℕ)) → not (is_closed (in_phase state n left)) ≡ is_in_open state
in_phase_is in_state.Closed n left = refl
in_phase_is in_state.Rest n left = refl
in_phase_is in_state.Running n left = refl
in_phase_is in_state.Posted n left = refl

out_open_is : (j : Joint) (r : Rings) (n : ℕ) → IsSound FS4 j r → is_out_open (out_slot (pipes_of j r) n).pipe.phase ≡ is_open (out_kept j.software n).state
out_open_is j r zero s = refl
out_open_is j r (suc m) s = by (nat_lt m 3) refl
  where
    by : (b : Bool) → nat_lt m 3 ≡ b → is_out_open (out_slot (pipes_of j r) (suc m)).pipe.phase ≡ is_open (out_kept j.software (suc m)).state
    by true k = ap (λ (x : OutSlot). is_out_open x.pipe.phase) (s.pipes.outs m (few m k)).slot ∙ out_phase (out_kept j.software (suc m)).state _ _
    by false k =
        ap (λ (x : OutSlot). is_out_open x.pipe.phase) (s.pipes.out_beyond m (many m k))
        ∙ sym (ap (λ (x : OutEndpoint). is_open x.state) (get_or_past j.software.outs m (not_open false) (past (length j.software.outs) m s.pipes.out_kepts (many m k))))

in_open_is : (j : Joint) (r : Rings) (n : ℕ) → IsSound FS4 j r → in_hears (in_slot (pipes_of j r) n) ≡ is_in_open (in_kept j.software n).state
in_open_is j r zero s = refl
in_open_is j r (suc m) s = by (nat_lt m 3) refl
  where
    by : (b : Bool) → nat_lt m 3 ≡ b → in_hears (in_slot (pipes_of j r) (suc m)) ≡ is_in_open (in_kept j.software (suc m)).state
    by true k = ap in_hears (s.pipes.ins m (few m k)).slot ∙ in_phase_is (in_kept j.software (suc m)).state _ _
    by false k =
        ap in_hears (s.pipes.in_beyond m (many m k))
        ∙ sym (ap (λ (x : InEndpoint). is_in_open x.state) (get_or_past j.software.ins m in_unused (past (length j.software.ins) m s.pipes.in_kepts (many m k))))

-- the device's endpoint at an address is open exactly where the driver keeps one that is
pub open_at_is : (j : Joint) (r : Rings) (a : ℕ) → IsSound FS4 j r → machine.is_open_at (pipes_of j r) a ≡ is_open_at j.software a
open_at_is j r a s =
    ap (λ x. if nat_lt a 128 then x else in_hears (in_slot (pipes_of j r) (a - 128))) (out_open_is j r a s)
    ∙ ap (λ x. if nat_lt a 128 then is_open (out_kept j.software a).state else x) (in_open_is j r (a - 128) s)

-- A change of it changes nothing.

same_out : (q : Pipes) (n : ℕ) → with_out_slot q n (out_slot q n) ≡ q
same_out q zero = refl
same_out q (suc n) = ap (λ xs. record q { outs = xs }) (set-get_or q.outs n no_out_slot)

same_in : (q : Pipes) (n : ℕ) → with_in_slot q n (in_slot q n) ≡ q
same_in q zero = refl
same_in q (suc n) = ap (λ xs. record q { ins = xs }) (set-get_or q.ins n no_in_slot)

same_at : (f : OutSlot → OutSlot) (g : InSlot → InSlot) (q : Pipes) (a : ℕ) → machine.is_open_at q a ≡ false
    → ((x : OutSlot) → is_out_open x.pipe.phase ≡ false → f x ≡ x) → ((x : InSlot) → in_hears x ≡ false → g x ≡ x) → changed_at f g q a ≡ q
same_at f g q a shut each_out each_in = by (nat_lt a 128) shut
  where
    by : (b : Bool) → (if b then is_out_open (out_slot q a).pipe.phase else in_hears (in_slot q (a - 128))) ≡ false
        → (if b then with_out_slot q a (f (out_slot q a)) else with_in_slot q (a - 128) (g (in_slot q (a - 128)))) ≡ q
    by true k = ap (with_out_slot q a) (each_out (out_slot q a) k) ∙ same_out q a
    by false k = ap (with_in_slot q (a - 128)) (each_in (in_slot q (a - 128)) k) ∙ same_in q (a - 128)

out_halt_same : (x : OutSlot) → is_out_open x.pipe.phase ≡ false → out_halted x ≡ x
out_halt_same x k = ap (λ b. if b then record x { pipe = outward.halted_ x.pipe } else x) k

in_halt_same : (x : InSlot) → in_hears x ≡ false → in_halted x ≡ x
in_halt_same x k = ap (λ b. if b then record x { pipe = inward.halted_ x.pipe } else x) k

out_clear_same : (x : OutSlot) → is_out_open x.pipe.phase ≡ false → out_cleared x ≡ x
out_clear_same x k = ap (λ b. if b then record x { pipe = outward.cleared x.pipe } else x) k

in_clear_same : (x : InSlot) → in_hears x ≡ false → in_cleared x ≡ x
in_clear_same x k = ap (λ b. if b then record x { pipe = inward.cleared x.pipe } else x) k

pub halt_none : (j : Joint) (a : ℕ) → is_open_at j.software a ≡ false → Keeps (λ port. halted_at port a) j j
halt_none j a e r s = (s, ap (with_pipes (port_of j r)) (sym (same_at out_halted in_halted (pipes_of j r) a (open_at_is j r a s ∙ e) out_halt_same in_halt_same)))

pub clear_none : (j : Joint) (r : Rings) (a : ℕ) → IsSound FS4 j r → is_open_at j.software a ≡ false → port_of j r ≡ cleared_at (port_of j r) a
clear_none j r a s e = ap (with_pipes (port_of j r)) (sym (same_at out_cleared in_cleared (pipes_of j r) a (open_at_is j r a s ∙ e) out_clear_same in_clear_same))

-- The addresses of the halted endpoints.

-- from a number on no endpoint is halted
none_from : {A : Type 0} (f : ℕ → A) (h : A → Bool) (k n address : ℕ) → ((i : ℕ) → n ≤ i → h (f i) ≡ false) → addresses_of address (map h (map f (numbers_from n k))) ≡ []
none_from f h zero n address e = refl
none_from f h (suc k) n address e =
    let rest = addresses_of (address + 1) (map h (map f (numbers_from (n + 1) k))) in
    ap (λ b. if b then address ∷ rest else rest) (e n (omega arith)) ∙ none_from f h k (n + 1) (address + 1) (λ i l. e i (omega (arith, l)))

-- three flags, and the addresses from this one on
abbrev told : ℕ → ℕ → ℕ → Bool → Bool → Bool → List ℕ → List ℕ
told a b c x y z rest =
    if x then a ∷ (if y then b ∷ (if z then c ∷ rest else rest) else if z then c ∷ rest else rest)
    else if y then b ∷ (if z then c ∷ rest else rest) else if z then c ∷ rest else rest

joined : (a b c : ℕ) (x y z : Bool) (rest : List ℕ) → told a b c x y z [] ++ rest ≡ told a b c x y z rest
joined a b c true true true rest = refl
joined a b c true true false rest = refl
joined a b c true false true rest = refl
joined a b c true false false rest = refl
joined a b c false true true rest = refl
joined a b c false true false rest = refl
joined a b c false false true rest = refl
joined a b c false false false rest = refl

out_none : (j : Joint) (r : Rings) → IsSound FS4 j r → (i : ℕ) → 4 ≤ i → (out_kept j.software i).halted ≡ false
out_none j r s zero h = refl
out_none j r s (suc m) h = ap (λ (x : OutEndpoint). x.halted) (get_or_past j.software.outs m (not_open false) (past (length j.software.outs) m s.pipes.out_kepts (omega (arith, h))))

in_none : (j : Joint) (r : Rings) → IsSound FS4 j r → (i : ℕ) → 4 ≤ i → (in_kept j.software i).halted ≡ false
in_none j r s zero h = refl
in_none j r s (suc m) h = ap (λ (x : InEndpoint). x.halted) (get_or_past j.software.ins m in_unused (past (length j.software.ins) m s.pipes.in_kepts (omega (arith, h))))

outs_told : (j : Joint) (r : Rings) → IsSound FS4 j r
    → addresses_of 1 (map (λ (slot : OutSlot). slot.pipe.halted) (pipes_of j r).outs) ≡ told 1 2 3 (out_kept j.software 1).halted (out_kept j.software 2).halted (out_kept j.software 3).halted []
outs_told j r s =
    ap (told 1 2 3 (out_kept j.software 1).halted (out_kept j.software 2).halted (out_kept j.software 3).halted)
    (none_from (out_slot_of j.table j.software r) (λ (slot : OutSlot). slot.pipe.halted) 12 4 4 (out_none j r s))

ins_told : (j : Joint) (r : Rings) → IsSound FS4 j r
    → addresses_of 129 (map (λ (slot : InSlot). slot.pipe.halted) (pipes_of j r).ins) ≡ told 129 130 131 (in_kept j.software 1).halted (in_kept j.software 2).halted (in_kept j.software 3).halted []
ins_told j r s =
    ap (told 129 130 131 (in_kept j.software 1).halted (in_kept j.software 2).halted (in_kept j.software 3).halted)
    (none_from (in_slot_of j.table j.software r) (λ (slot : InSlot). slot.pipe.halted) 12 4 132 (in_none j r s))

pub halted_are : (j : Joint) (r : Rings) → IsSound FS4 j r → filter (is_halted_at j.software) (1 ∷ 2 ∷ 3 ∷ 129 ∷ 130 ∷ 131 ∷ []) ≡ halted_addresses (pipes_of j r)
halted_are j r s =
    sym (ap (λ xs. xs ++ addresses_of 129 (map (λ (slot : InSlot). slot.pipe.halted) (pipes_of j r).ins)) (outs_told j r s)
    ∙ ap (λ xs. told 1 2 3 (out_kept j.software 1).halted (out_kept j.software 2).halted (out_kept j.software 3).halted [] ++ xs) (ins_told j r s)
    ∙ joined 1 2 3 (out_kept j.software 1).halted (out_kept j.software 2).halted (out_kept j.software 3).halted (told 129 130 131 (in_kept j.software 1).halted (in_kept j.software 2).halted (in_kept j.software 3).halted []))

-- a number as an address
pub is_out : (n : ℕ) → n ≤ 3 → rings.is_in n ≡ false
is_out n h = grind (arith, nat_tests)

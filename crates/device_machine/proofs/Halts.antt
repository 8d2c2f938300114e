-- Halts, as GET_STATUS tells them.
use Rattle.std.proofs.Common.{◌≡◌, ◌≢◌, inl, inr, ℕ, zero, suc, ◌+◌, ◌-◌, ◌<◌, ◌≤◌, ◌++◌, List, [], ◌∷◌, length, map, Bool, true, false, ◌||◌, ◌==◌, if◌then◌else◌, refl, ap, sym, ◌∙◌, arith}
use Rattle.std.specs.Prelude.{slice_index_or, nat_lt}
use Rattle.std.specs.List.{list_any}
use Rattle.std.proofs.lemmas.Bool.Decides.{nat_tests}
use Rattle.std.proofs.lemmas.List.{length-map, get_or-set_same}
use Rattle.usb_control.specs.Table.{is_at}
use Rattle.device_machine.specs.Pipes.{Pipes, OutSlot, InSlot, no_out_slot, no_in_slot, out_slot, in_slot, with_out_slot, with_in_slot, changed_at, addresses_of, halted_addresses}
use Rattle.device_machine.specs.Laws.{IsAddress}
use Rattle.device_machine.proofs.Slots.{at_map}
use Rattle.device_machine.proofs.Apart.{out_other, in_other, out_ins, in_outs}

-- An address among those of a list.

or_of : (a b : Bool) → a ≡ false → (a || b) ≡ b
or_of true b e = sym (absurd_of e)
  where
    absurd_of : true ≡ false → b ≡ true
    absurd_of e = absurd (cc (e))
or_of false b e = refl

ne_is : (a b : ℕ) → a ≢ b → (a == b) ≡ false
ne_is a b e = grind (arith, nat_tests)

eq_is : (a : ℕ) → (a == a) ≡ true
eq_is a = grind (arith, nat_tests)

below : (start a : ℕ) (hs : List Bool) → a < start → list_any (is_at a) (addresses_of start hs) ≡ false
below start a [] h = refl
below start a (true ∷ hs) h = or_of (start == a) _ (ne_is start a (λ e. absurd (omega (arith, h, e)))) ∙ below (start + 1) a hs (omega (arith, h))
below start a (false ∷ hs) h = below (start + 1) a hs (omega (arith, h))

above : (start a : ℕ) (hs : List Bool) → start + length hs ≤ a → list_any (is_at a) (addresses_of start hs) ≡ false
above start a [] h = refl
above start a (true ∷ hs) h = or_of (start == a) _ (ne_is start a (λ e. absurd (omega (arith, h, e)))) ∙ above (start + 1) a hs (omega (arith, h))
above start a (false ∷ hs) h = above (start + 1) a hs (omega (arith, h))

here : (start i : ℕ) (hs : List Bool) → list_any (is_at (start + i)) (addresses_of start hs) ≡ slice_index_or hs i false
here start i [] = refl
here start zero (true ∷ hs) = ap (λ x. x || list_any (is_at (start + 0)) (addresses_of (start + 1) hs)) (ap (λ n. start == n) (none_up start) ∙ eq_is start)
  where
    none_up : (start : ℕ) → start + 0 ≡ start
    none_up start = omega arith
here start zero (false ∷ hs) = below (start + 1) (start + 0) hs (omega arith)
here start (suc i) (true ∷ hs) =
    or_of (start == start + suc i) _ (ne_is start (start + suc i) (λ e. absurd (omega (arith, e))))
    ∙ ap (λ n. list_any (is_at n) (addresses_of (start + 1) hs)) (next start i) ∙ here (start + 1) i hs
  where
    next : (start i : ℕ) → start + suc i ≡ (start + 1) + i
    next start i = omega arith
here start (suc i) (false ∷ hs) = ap (λ n. list_any (is_at n) (addresses_of (start + 1) hs)) (next start i) ∙ here (start + 1) i hs
  where
    next : (start i : ℕ) → start + suc i ≡ (start + 1) + i
    next start i = omega arith

any_append : (f : ℕ → Bool) (xs ys : List ℕ) → list_any f (xs ++ ys) ≡ (list_any f xs || list_any f ys)
any_append f [] ys = refl
any_append f (x ∷ xs) ys = ap (λ b. f x || b) (any_append f xs ys) ∙ or_assoc (f x) (list_any f xs) (list_any f ys)
  where
    or_assoc : (a b c : Bool) → (a || (b || c)) ≡ ((a || b) || c)
    or_assoc true b c = refl
    or_assoc false b c = refl

or_none : (a b : Bool) → b ≡ false → (a || b) ≡ a
or_none true b e = refl
or_none false b e = e

-- So an endpoint's halt is told.

abbrev pub out_flags : Pipes → List Bool
out_flags p = map (λ (s : OutSlot). s.pipe.halted) p.outs

abbrev pub in_flags : Pipes → List Bool
in_flags p = map (λ (s : InSlot). s.pipe.halted) p.ins

pub out_told : (p : Pipes) (n : ℕ) → n < 15 → list_any (is_at (suc n)) (halted_addresses p) ≡ (out_slot p (suc n)).pipe.halted
out_told p n few =
    any_append (is_at (suc n)) (addresses_of 1 (out_flags p)) (addresses_of 129 (in_flags p))
    ∙ or_none (list_any (is_at (suc n)) (addresses_of 1 (out_flags p))) _ (below 129 (suc n) (in_flags p) (omega (arith, few)))
    ∙ ap (λ a. list_any (is_at a) (addresses_of 1 (out_flags p))) (one n) ∙ here 1 n (out_flags p) ∙ at_map (λ (s : OutSlot). s.pipe.halted) p.outs n no_out_slot
  where
    one : (n : ℕ) → suc n ≡ 1 + n
    one n = omega arith

pub in_told : (p : Pipes) (n : ℕ) → length p.outs ≡ 15 → list_any (is_at (128 + suc n)) (halted_addresses p) ≡ (in_slot p (suc n)).pipe.halted
in_told p n count =
    any_append (is_at (128 + suc n)) (addresses_of 1 (out_flags p)) (addresses_of 129 (in_flags p))
    ∙ or_of (list_any (is_at (128 + suc n)) (addresses_of 1 (out_flags p))) _ (above 1 (128 + suc n) (out_flags p) (omega (arith, length-map p.outs (λ (s : OutSlot). s.pipe.halted), count)))
    ∙ ap (λ a. list_any (is_at a) (addresses_of 129 (in_flags p))) (one n) ∙ here 129 n (in_flags p) ∙ at_map (λ (s : InSlot). s.pipe.halted) p.ins n no_in_slot
  where
    one : (n : ℕ) → 128 + suc n ≡ 129 + n
    one n = omega arith

-- The flag of one endpoint.

-- an address of either direction
pub told_same : (new old : Pipes) → length new.outs ≡ 15 → length old.outs ≡ 15 → (address : ℕ) → IsAddress address
    → ((n : ℕ) → address ≡ suc n → (out_slot new (suc n)).pipe.halted ≡ (out_slot old (suc n)).pipe.halted)
    → ((n : ℕ) → address ≡ 128 + suc n → (in_slot new (suc n)).pipe.halted ≡ (in_slot old (suc n)).pipe.halted)
    → list_any (is_at address) (halted_addresses new) ≡ list_any (is_at address) (halted_addresses old)
told_same new old cn co address (inl (n, few, is)) outs ins =
    ap (λ a. list_any (is_at a) (halted_addresses new)) is ∙ out_told new n few ∙ outs n is ∙ sym (out_told old n few) ∙ ap (λ a. list_any (is_at a) (halted_addresses old)) (sym is)
told_same new old cn co address (inr (n, few, is)) outs ins =
    ap (λ a. list_any (is_at a) (halted_addresses new)) is ∙ in_told new n cn ∙ ins n is ∙ sym (in_told old n co) ∙ ap (λ a. list_any (is_at a) (halted_addresses old)) (sym is)

pub told_as : (p : Pipes) (b : Bool) → length p.outs ≡ 15 → (address : ℕ) → IsAddress address
    → ((n : ℕ) → n < 15 → address ≡ suc n → (out_slot p (suc n)).pipe.halted ≡ b) → ((n : ℕ) → n < 15 → address ≡ 128 + suc n → (in_slot p (suc n)).pipe.halted ≡ b)
    → list_any (is_at address) (halted_addresses p) ≡ b
told_as p b c address (inl (n, few, is)) outs ins = ap (λ a. list_any (is_at a) (halted_addresses p)) is ∙ out_told p n few ∙ outs n few is
told_as p b c address (inr (n, few, is)) outs ins = ap (λ a. list_any (is_at a) (halted_addresses p)) is ∙ in_told p n c ∙ ins n few is

-- one endpoint changed, and the others

pub low_is : (a n : ℕ) → a ≡ suc n → n < 15 → nat_lt a 128 ≡ true
low_is a n e h = grind (arith, nat_tests)

pub high_is : (a n : ℕ) → a ≡ 128 + suc n → nat_lt a 128 ≡ false
high_is a n e = grind (arith, nat_tests)

pub down : (a n : ℕ) → a ≡ 128 + suc n → a - 128 ≡ suc n
down a n e = omega arith

out_there : (p : Pipes) (n : ℕ) (x : OutSlot) → n < 15 → length p.outs ≡ 15 → out_slot (with_out_slot p (suc n) x) (suc n) ≡ x
out_there p n x few c = get_or-set_same p.outs n x no_out_slot (omega (arith, few, c))

in_there : (p : Pipes) (n : ℕ) (x : InSlot) → n < 15 → length p.ins ≡ 15 → in_slot (with_in_slot p (suc n) x) (suc n) ≡ x
in_there p n x few c = get_or-set_same p.ins n x no_in_slot (omega (arith, few, c))

pub changed_out : (f : OutSlot → OutSlot) (g : InSlot → InSlot) (p : Pipes) (address n : ℕ) → n < 15 → length p.outs ≡ 15 → address ≡ suc n
    → out_slot (changed_at f g p address) (suc n) ≡ f (out_slot p (suc n))
changed_out f g p address n few c is =
    ap (λ b. out_slot (if b then with_out_slot p address (f (out_slot p address)) else with_in_slot p (address - 128) (g (in_slot p (address - 128)))) (suc n)) (low_is address n is few)
    ∙ ap (λ a. out_slot (with_out_slot p a (f (out_slot p a))) (suc n)) is ∙ out_there p n (f (out_slot p (suc n))) few c

pub changed_in : (f : OutSlot → OutSlot) (g : InSlot → InSlot) (p : Pipes) (address n : ℕ) → n < 15 → length p.ins ≡ 15 → address ≡ 128 + suc n
    → in_slot (changed_at f g p address) (suc n) ≡ g (in_slot p (suc n))
changed_in f g p address n few c is =
    ap (λ b. in_slot (if b then with_out_slot p address (f (out_slot p address)) else with_in_slot p (address - 128) (g (in_slot p (address - 128)))) (suc n)) (high_is address n is)
    ∙ ap (λ a. in_slot (with_in_slot p a (g (in_slot p a))) (suc n)) (down address n is) ∙ in_there p n (g (in_slot p (suc n))) few c

out_else : (f : OutSlot → OutSlot) (g : InSlot → InSlot) (p : Pipes) (address n : ℕ) (b : Bool) → suc n ≢ address
    → out_slot (if b then with_out_slot p address (f (out_slot p address)) else with_in_slot p (address - 128) (g (in_slot p (address - 128)))) (suc n) ≡ out_slot p (suc n)
out_else f g p address n true ne = out_other p address (suc n) (f (out_slot p address)) ne
out_else f g p address n false ne = ap (λ xs. slice_index_or xs n no_out_slot) (in_outs p (address - 128) (g (in_slot p (address - 128))))

in_else : (f : OutSlot → OutSlot) (g : InSlot → InSlot) (p : Pipes) (address n : ℕ) (b : Bool) → nat_lt address 128 ≡ b → 128 + suc n ≢ address
    → in_slot (if b then with_out_slot p address (f (out_slot p address)) else with_in_slot p (address - 128) (g (in_slot p (address - 128)))) (suc n) ≡ in_slot p (suc n)
in_else f g p address n true e ne = ap (λ xs. slice_index_or xs n no_in_slot) (out_ins p address (f (out_slot p address)))
in_else f g p address n false e ne = in_other p (address - 128) (suc n) (g (in_slot p (address - 128))) (λ k. ne (up address n e k))
  where
    up : (a n : ℕ) → nat_lt a 128 ≡ false → suc n ≡ a - 128 → 128 + suc n ≡ a
    up a n e k = grind (arith, nat_tests)

pub others_told : (f : OutSlot → OutSlot) (g : InSlot → InSlot) (p : Pipes) → length p.outs ≡ 15 → (address other : ℕ)
    → length (changed_at f g p address).outs ≡ 15 → IsAddress other → other ≢ address
    → list_any (is_at other) (halted_addresses (changed_at f g p address)) ≡ list_any (is_at other) (halted_addresses p)
others_told f g p c address other cn is ne =
    told_same (changed_at f g p address) p cn c other is
    (λ n e. ap (λ (s : OutSlot). s.pipe.halted) (out_else f g p address n (nat_lt address 128) (λ k. ne (e ∙ k))))
    (λ n e. ap (λ (s : InSlot). s.pipe.halted) (in_else f g p address n (nat_lt address 128) refl (λ k. ne (e ∙ k))))

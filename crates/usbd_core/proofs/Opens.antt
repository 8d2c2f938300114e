-- The endpoints of a set, opened one after another.
use Rattle.std.proofs.Common.{◌≡◌, ◌==◌, ℕ, ◌<◌, ◌≤◌, List, [], ◌∷◌, inl, inr, Bool, true, false, ◌||◌, length, take, map, get_or, refl, sym, ap, ◌∙◌, arith, subst}
use Rattle.std.specs.Prelude.{◌⊎◌, filter}
use Rattle.std.specs.List.{All, AllByRecursion, list_any}
use Rattle.std.specs.Set.{is_member}
use Rattle.std.proofs.lemmas.Bool.Decides.{nat_tests}
use Rattle.std.proofs.lemmas.Cmp.{nat_eq_equiv}
use Rattle.std.proofs.lemmas.Map.Made.{length-le_from_is_member}
use Rattle.std.proofs.lemmas.List.{length-map, length-take, get_or-take, get_or-map}
use Rattle.std.proofs.lemmas.List.Folds.{list_any_none}
use Rattle.std.proofs.lemmas.Map.Keys.{apart_from_distinct}
use Rattle.usb_descriptor.specs.declared.endpoint.Endpoint.{Endpoint}
use Rattle.usb_descriptor.specs.Set.{is_addressed}
use Rattle.usb_descriptor.specs.Served.{IsServed, AreServed}
use Rattle.dwc2_regs.specs.declared.access.TheConstants.{FS4}
use Rattle.usbd_core.specs.Device.{tops}

apart : (es : List Endpoint) (i k : ℕ) (d other : Endpoint) → AreServed (tops FS4) es → k < i → i < length es → ((get_or es k other).addr == (get_or es i d).addr) ≡ false
apart es i k d other served before within =
    let inside : k < length es = omega arith in
    let keys : List ℕ = map (λ e. e.addr) es in
    let all : i < length keys = omega (arith, length-map es (λ (e : Endpoint). e.addr)) in
    let here = get_or-map (λ (e : Endpoint). e.addr) es i d 0 within in
    let there = get_or-map (λ (e : Endpoint). e.addr) es k other 0 inside in
    ap (λ (a : ℕ). a == (get_or es i d).addr) (sym there)
    ∙ ap (λ (a : ℕ). get_or keys k 0 == a) (sym here)
    ∙ apart_from_distinct (λ a b. a == b) keys k i 0 served.distinct before all

-- no endpoint before it has the address of the next one
pub shut : (es : List Endpoint) (i : ℕ) (d : Endpoint) → AreServed (tops FS4) es → i < length es → list_any (is_addressed (get_or es i d).addr) (take i es) ≡ false
shut es i d served within =
    list_any_none (λ (e : Endpoint). e.addr == (get_or es i d).addr) (take i es) none
  where
    none : All (λ (e : Endpoint). (e.addr == (get_or es i d).addr) ≡ false) (take i es)
    none k other h =
        let before : k < i = omega (arith, length-take i es) in
        ap (λ (e : Endpoint). e.addr == (get_or es i d).addr) (get_or-take i es k other before) ∙ apart es i k d other served before within

-- There are six addresses.

abbrev addresses : List ℕ
addresses = 1 ∷ 2 ∷ 3 ∷ 129 ∷ 130 ∷ 131 ∷ []

is_one : (a : ℕ) → ((1 ≤ a) × (a ≤ 3)) ⊎ ((129 ≤ a) × (a ≤ 131)) → is_member (λ x y. x == y) addresses a ≡ true
is_one a (inl h) = grind (arith, nat_tests, h.0, h.1)
is_one a (inr h) = grind (arith, nat_tests, h.0, h.1)

same_of : (a b : ℕ) → (a == b) ≡ true → b ≡ a
same_of a b e = grind (arith, nat_tests)

each_one : (es : List Endpoint) → AllByRecursion (IsServed (tops FS4)) es → (q : ℕ) → is_member (λ x y. x == y) (map (λ e. e.addr) es) q ≡ true → is_member (λ x y. x == y) addresses q ≡ true
each_one [] served q e = absurd (cc e)
each_one (x ∷ es) served q e = by (q == x.addr) refl e (each_one es served.1 q)
  where
    by : (b : Bool) → (q == x.addr) ≡ b → (b || is_member (λ x y. x == y) (map (λ e. e.addr) es) q) ≡ true
        → (is_member (λ x y. x == y) (map (λ e. e.addr) es) q ≡ true → is_member (λ x y. x == y) addresses q ≡ true) → is_member (λ x y. x == y) addresses q ≡ true
    by true k h rest = subst (λ a. is_member (λ x y. x == y) addresses a ≡ true) (same_of q x.addr k) (is_one x.addr served.0.0)
    by false k h rest = rest h

-- so a set has at most six endpoints
pub six : (es : List Endpoint) → AreServed (tops FS4) es → length es ≤ 6
six es served =
    subst (λ n. n ≤ 6) (length-map es (λ (e : Endpoint). e.addr))
    (length-le_from_is_member nat_eq_equiv (map (λ e. e.addr) es) addresses served.distinct (each_one es served.each))

-- a device that knows all owners opens all
pub all_known : (es : List Endpoint) → filter (λ (e : Endpoint). true) es ≡ es
all_known [] = refl
all_known (e ∷ es) = ap (λ xs. e ∷ xs) (all_known es)

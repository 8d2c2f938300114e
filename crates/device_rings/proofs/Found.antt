-- Each endpoint of an accepted set is found at its address, and its ring is there.
use Rattle.std.proofs.Common.{◌≡◌, ℕ, ◌+◌, ◌-◌, ◌<◌, ◌≤◌, ◌⊎◌, List, [], ◌∷◌, Bool, true, false, ◌==◌, ◌||◌, Some, cond, map, refl, ap, sym, ◌∙◌, subst, inl, inr, arith}
use Rattle.std.specs.Prelude.{find, if◌then◌else◌}
use Rattle.std.specs.List.{list_any, IsDistinct, AllByRecursion}
use Rattle.std.proofs.lemmas.Bool.{cases_lt, eq-eqb}
use Rattle.usb_descriptor.specs.declared.endpoint.Endpoint.{Endpoint}
use Rattle.usb_descriptor.specs.declared.limits.EpLimits.{EpLimits}
use Rattle.usb_descriptor.specs.Served.{IsServed, AreServed}
use Rattle.usb_descriptor.specs.Set.{is_addressed}
use Rattle.device_rings.specs.Rings.{in_ring, out_ring, is_in, ring_at, IsRing}
use Rattle.device_rings.specs.Sizes.{size_of, size_at, ring_size, ring_for, rings_of, empty}
use Rattle.device_rings.specs.Laws.{HaveRings, three}
use Rattle.device_rings.proofs.Numbered.{from_one, to_last}

abbrev addresses : List Endpoint → List ℕ
addresses endpoints = map (λ e. e.addr) endpoints

abbrev IsFound : List Endpoint → Endpoint → Type 0
IsFound endpoints e = find (is_addressed e.addr) endpoints ≡ Some e

-- those behind an endpoint of another address
found_behind : (first : Endpoint) (all rest : List Endpoint) → AllByRecursion (λ a. (first.addr == a) ≡ false) (addresses rest)
    → AllByRecursion (IsFound all) rest → AllByRecursion (IsFound (first ∷ all)) rest
found_behind first all [] apart found = tt
found_behind first all (e ∷ rest) apart found =
    (ap (λ (b : Bool). cond b (Some first) (find (is_addressed e.addr) all)) apart.0 ∙ found.0, found_behind first all rest apart.1 found.1)

each_found : (endpoints : List Endpoint) → IsDistinct (λ a b. a == b) (addresses endpoints) → AllByRecursion (IsFound endpoints) endpoints
unfolding IsDistinct
each_found [] distinct = tt
each_found (e ∷ rest) distinct =
    (ap (λ (b : Bool). cond b (Some e) (find (is_addressed e.addr) rest)) (eq-eqb e.addr e.addr refl), found_behind e rest rest distinct.0 (each_found rest distinct.1))

-- one of three numbers
third : (n : ℕ) → 1 ≤ n → n ≤ 3 → (n ≡ 1) ⊎ ((n ≡ 2) ⊎ (n ≡ 3))
third n low high = elim (cases_lt n 2) [
  | inl one ↦ inl (omega (arith, low, one))
  | inr more ↦ elim (cases_lt n 3) [
    | inl two ↦ inr (inl (omega (arith, more, two)))
    | inr last ↦ inr (inr (omega (arith, last, high)))
  ]
]

there_out : (endpoints : List Endpoint) (a : ℕ) → 1 ≤ a → a ≤ 3 → ring_at (rings_of endpoints) a ≡ ring_for endpoints a
there_out endpoints a low high = elim (third a low high) [
  | inl e ↦ subst (λ n. ring_at (rings_of endpoints) n ≡ ring_for endpoints n) (sym e) refl
  | inr (inl e) ↦ subst (λ n. ring_at (rings_of endpoints) n ≡ ring_for endpoints n) (sym e) refl
  | inr (inr e) ↦ subst (λ n. ring_at (rings_of endpoints) n ≡ ring_for endpoints n) (sym e) refl
]

there_in : (endpoints : List Endpoint) (a : ℕ) → 129 ≤ a → a ≤ 131 → ring_at (rings_of endpoints) a ≡ ring_for endpoints a
there_in endpoints a low high =
    let is : a ≡ 128 + (a - 128) = omega (arith, low) in
    subst (λ n. ring_at (rings_of endpoints) n ≡ ring_for endpoints n) (sym is) (go (a - 128) (third (a - 128) (omega (arith, low)) (omega (arith, low, high))))
  where
    go : (n : ℕ) → (n ≡ 1) ⊎ ((n ≡ 2) ⊎ (n ≡ 3)) → ring_at (rings_of endpoints) (128 + n) ≡ ring_for endpoints (128 + n)
    go n (inl e) = subst (λ m. ring_at (rings_of endpoints) (128 + m) ≡ ring_for endpoints (128 + m)) (sym e) refl
    go n (inr (inl e)) = subst (λ m. ring_at (rings_of endpoints) (128 + m) ≡ ring_for endpoints (128 + m)) (sym e) refl
    go n (inr (inr e)) = subst (λ m. ring_at (rings_of endpoints) (128 + m) ≡ ring_for endpoints (128 + m)) (sym e) refl

served_there : (limits : EpLimits) (endpoints : List Endpoint) (e : Endpoint) → three limits → IsServed limits e → ring_at (rings_of endpoints) e.addr ≡ ring_for endpoints e.addr
served_there limits endpoints e tops served = elim served.0 [
  | inl out ↦ there_out endpoints e.addr out.0 (omega (arith, out.1, tops.1))
  | inr inward ↦ there_in endpoints e.addr inward.0 (omega (arith, inward.1, tops.0))
]

each_ring : (limits : EpLimits) (all rest : List Endpoint) → three limits → AllByRecursion (IsServed limits) rest → AllByRecursion (IsFound all) rest
    → AllByRecursion (λ e. ring_at (rings_of all) e.addr ≡ empty (ring_size e)) rest
each_ring limits all [] tops served found = tt
each_ring limits all (e ∷ rest) tops served found =
    (served_there limits all e tops served.0 ∙ ap (λ o. empty (size_of o)) found.0, each_ring limits all rest tops served.1 found.1)

sized_by : (first : Bool) (e : Endpoint) (rest : List Endpoint) (a : ℕ) → (0 < size_at rest a → list_any (is_addressed a) rest ≡ true)
    → 0 < size_of (cond first (Some e) (find (is_addressed a) rest)) → (first || list_any (is_addressed a) rest) ≡ true
sized_by true e rest a others h = refl
sized_by false e rest a others h = others h

-- what has a size is there
sized : (endpoints : List Endpoint) (a : ℕ) → 0 < size_at endpoints a → list_any (is_addressed a) endpoints ≡ true
sized [] a h = absurd (omega (arith, h))
sized (e ∷ rest) a h = sized_by (is_addressed a e) e rest a (sized rest a) h

no_other : (endpoints : List Endpoint) (a : ℕ) → IsRing (ring_at (rings_of endpoints) a) → list_any (is_addressed a) endpoints ≡ true
no_other endpoints a h = by (is_in a) h
  where
    by : (b : Bool) → IsRing (if b then in_ring (rings_of endpoints) (a - 128) else out_ring (rings_of endpoints) a) → list_any (is_addressed a) endpoints ≡ true
    by true named =
        let low = from_one (rings_of endpoints).ins (a - 128) named in
        let high = to_last (rings_of endpoints).ins (a - 128) named in
        sized endpoints a (subst IsRing (there_in endpoints a (omega (arith, low)) (omega (arith, low, high))) h)
    by false named =
        let low = from_one (rings_of endpoints).outs a named in
        let high = to_last (rings_of endpoints).outs a named in
        sized endpoints a (subst IsRing (there_out endpoints a low high) h)

pub have_rings : (limits : EpLimits) (endpoints : List Endpoint) → three limits → AreServed limits endpoints → HaveRings endpoints
have_rings limits endpoints tops served = record {
  each = each_ring limits endpoints endpoints tops served.each (each_found endpoints served.distinct);
  no_other = no_other endpoints;
}

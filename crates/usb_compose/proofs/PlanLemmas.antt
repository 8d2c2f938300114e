-- Three numbers give at most three OUT endpoints, whose packets find room.
use Rattle.std.proofs.Common.{◌≡◌, ℕ, ◌+◌, ◌*◌, ◌≤◌, List, [], ◌∷◌, Bool, true, false, length, map, ap, inl, inr, arith}
use Rattle.std.specs.Prelude.{filter, ◌==◌}
use Rattle.std.specs.List.{list_any, IsDistinct, AllByRecursion}
use Rattle.std.specs.Cmp.{nat_eq_equiv}
use Rattle.std.proofs.lemmas.Bool.{cases_Bool}
use Rattle.std.proofs.lemmas.Bool.Decides.{nat_tests}
use Rattle.std.proofs.lemmas.List.{length-map}
use Rattle.std.proofs.lemmas.Map.Made.{length-le_from_is_member}
use Rattle.dwc2_regs.specs.declared.access.Profile.{Profile}
use Rattle.dwc2_regs.specs.declared.access.TheConstants.{FS4}
use Rattle.usb_descriptor.specs.declared.endpoint.Endpoint.{Endpoint}
use Rattle.usb_descriptor.specs.declared.limits.EpLimits.{EpLimits}
use Rattle.usb_descriptor.specs.Served.{IsServed, AreServed}
use Rattle.usb_compose.specs.Plan.{is_out, words_for, most_words}

-- what is served of an OUT endpoint: its number in its direction, and the bound on its packets
abbrev IsServedOut : EpLimits → Endpoint → Type 0
IsServedOut limits endpoint = (1 ≤ endpoint.addr) × (endpoint.addr ≤ limits.out_top) × (endpoint.size ≤ 64)

served_out : (limits : EpLimits) (endpoint : Endpoint) → is_out endpoint ≡ true → IsServed limits endpoint → IsServedOut limits endpoint
served_out limits endpoint out h =
    elim h.0 [
      | inl o ↦ (o.0, o.1, h.2)
      | inr i ↦ let low = i.0 in absurd (grind (arith, nat_tests))
    ]

outs_served : (limits : EpLimits) (endpoints : List Endpoint) → AllByRecursion (IsServed limits) endpoints
    → AllByRecursion (IsServedOut limits) (filter is_out endpoints)
outs_served limits [] h = tt
outs_served limits (endpoint ∷ endpoints) h =
    elim (cases_Bool (is_out endpoint)) [
      | inl e ↦ rw e (served_out limits endpoint e h.0, outs_served limits endpoints h.1)
      | inr e ↦ rw e (outs_served limits endpoints h.1)
    ]

-- each takes at most a packet of 64 bytes
words_for-le : (limits : EpLimits) (outs : List Endpoint) → AllByRecursion (IsServedOut limits) outs → words_for outs ≤ 18 * length outs
words_for-le limits [] h = omega arith
words_for-le limits (endpoint ∷ outs) h =
    let ih = words_for-le limits outs h.1 in
    let size = h.0.2 in
    omega arith

abbrev addresses : List Endpoint → List ℕ
addresses outs = map (λ endpoint. endpoint.addr) outs

-- some of those that differ from an address, or from one another, do
apart_filter : (p : Endpoint → Bool) (a : ℕ) (endpoints : List Endpoint) → AllByRecursion (λ b. (a == b) ≡ false) (addresses endpoints)
    → AllByRecursion (λ b. (a == b) ≡ false) (addresses (filter p endpoints))
apart_filter p a [] h = tt
apart_filter p a (endpoint ∷ endpoints) h =
    elim (cases_Bool (p endpoint)) [
      | inl e ↦ rw e (h.0, apart_filter p a endpoints h.1)
      | inr e ↦ rw e (apart_filter p a endpoints h.1)
    ]

distinct_filter : (p : Endpoint → Bool) (endpoints : List Endpoint) → IsDistinct (λ a b. a == b) (addresses endpoints)
    → IsDistinct (λ a b. a == b) (addresses (filter p endpoints))
unfolding IsDistinct
distinct_filter p [] h = tt
distinct_filter p (endpoint ∷ endpoints) h =
    elim (cases_Bool (p endpoint)) [
      | inl e ↦ rw e (apart_filter p endpoint.addr endpoints h.0, distinct_filter p endpoints h.1)
      | inr e ↦ rw e (distinct_filter p endpoints h.1)
    ]

abbrev three : List ℕ
three = 1 ∷ 2 ∷ 3 ∷ []

among : (q a top : ℕ) → (q == a) ≡ true → 1 ≤ a → a ≤ top → top ≡ 3 → list_any (λ n. q == n) three ≡ true
among q a top h from to is = grind (arith, nat_tests)

each_among : (limits : EpLimits) (outs : List Endpoint) → limits.out_top ≡ 3 → AllByRecursion (IsServedOut limits) outs
    → (q : ℕ) → list_any (λ n. q == n) (addresses outs) ≡ true → list_any (λ n. q == n) three ≡ true
each_among limits [] is h q k = absurd (cc)
each_among limits (endpoint ∷ outs) is h q k =
    elim (cases_Bool (q == endpoint.addr)) [
      | inl e ↦ among q endpoint.addr limits.out_top e h.0.0 h.0.1 is
      | inr e ↦ each_among limits outs is h.1 q (rw e at k)
    ]

abbrev pub tops : Profile → EpLimits
tops profile = record { in_top = profile.in_eps; out_top = profile.out_eps; report_known = true }

pub room : (profile : Profile) (endpoints : List Endpoint) → profile ≡ FS4 → AreServed (tops profile) endpoints
    → most_words endpoints ≤ 12 + 18 * (profile.out_eps + 1)
room profile endpoints same h =
    let limits = tops profile in
    let outs = filter is_out endpoints in
    let is : profile.out_eps ≡ 3 = ap (λ (p : Profile). p.out_eps) same in
    let served = outs_served limits endpoints h.each in
    let distinct = distinct_filter is_out endpoints h.distinct in
    let few = length-le_from_is_member nat_eq_equiv (addresses outs) three distinct (each_among limits outs is served) in
    let words = words_for-le limits outs served in
    omega (arith, length-map outs (λ (endpoint : Endpoint). endpoint.addr))

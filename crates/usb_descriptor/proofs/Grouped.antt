-- The endpoints of an interface have its owner: the addresses differ, so that the first endpoint at an address is the one
-- of the interface.
use Rattle.std.proofs.Common.{◌≡◌, ℕ, zero, suc, ◌+◌, List, [], ◌∷◌, Bool, true, false, true≢false, ltb, eqb, cond, length, take, drop, Option, Some, None, refl, ap, sym, ◌∙◌, arith, inl, inr}
use Rattle.std.specs.Prelude.{find, position}
use Rattle.std.specs.List.{list_any, IsDistinct, AllByRecursion, position_or_len}
use Rattle.std.specs.Option.{option_map}
use Rattle.std.proofs.lemmas.Bool.{cases_Bool}
use Rattle.std.proofs.lemmas.Bool.Decides.{nat_tests}
use Rattle.usb_packet.specs.declared.bus.Owner.{Owner}
use Rattle.usb_packet.specs.declared.bus.Owner.TheVariants.{Core}
use Rattle.descriptor_row.specs.declared.descriptor.Descriptor.{Descriptor}
use Rattle.descriptor_row.specs.Row.{row_of}
use Rattle.descriptor_row.specs.Kinds.{is_interface, is_endpoint, number, address, up_to, following, following_place, left_of}
use Rattle.descriptor_groups.specs.Groups.{owner_by}
use Rattle.usb_descriptor.specs.declared.limits.EpLimits.{EpLimits}
use Rattle.usb_descriptor.specs.Set.{Set, IsAccepted, owner_behind, endpoints_behind, interfaces_by, is_numbered, is_addressed, is_interface_of, is_endpoint_at, interface_row, interface_owner, endpoint_owner}
use Rattle.usb_descriptor.specs.Owners.{AreAlwaysGrouped}
use Rattle.usb_descriptor.proofs.Thirty.{addresses, any_same}
use Rattle.usb_descriptor.proofs.Served.{addresses_are_good}

-- the place of the first that passes, behind one that doesn't
place_more : (m l : ℕ) → cond (ltb (1 + m) (suc l)) (Some (1 + m)) None ≡ option_map suc (cond (ltb m l) (Some m) None)
place_more m l =
    let one : 1 + m ≡ suc m = omega arith in
    elim (cases_Bool (ltb m l)) [
      | inl e ↦ let t : ltb (1 + m) (suc l) ≡ true = grind (arith, nat_tests) in rw (t, e) (ap Some one)
      | inr e ↦ let t : ltb (1 + m) (suc l) ≡ false = grind (arith, nat_tests) in rw (t, e) refl
    ]

position_more : (test : Descriptor → Bool) (d : Descriptor) (ds : List Descriptor) → test d ≡ false → position test (d ∷ ds) ≡ option_map suc (position test ds)
position_more test d ds e = rw e (place_more (position_or_len test ds) (length ds))

position_here : (test : Descriptor → Bool) (d : Descriptor) (ds : List Descriptor) → test d ≡ true → position test (d ∷ ds) ≡ Some 0
position_here test d ds e =
    let t : ltb 0 (suc (length ds)) ≡ true = grind (arith, nat_tests) in
    rw (e, t) refl

up_to_more : (place : Option ℕ) (d : Descriptor) (ds : List Descriptor) → up_to (option_map suc place) (d ∷ ds) ≡ d ∷ up_to place ds
up_to_more None d ds = refl
up_to_more (Some k) d ds = refl

following_more : (d : Descriptor) (ds : List Descriptor) → is_interface d ≡ false → following (d ∷ ds) ≡ d ∷ following ds
following_more d ds e =
    ap (λ place. up_to place (d ∷ ds)) (position_more is_interface d ds e) ∙ up_to_more (position is_interface ds) d ds

following_none : (d : Descriptor) (ds : List Descriptor) → is_interface d ≡ true → following (d ∷ ds) ≡ []
following_none d ds e = ap (λ place. up_to place (d ∷ ds)) (position_here is_interface d ds e)

following_place_more : (place : Option ℕ) (d : Descriptor) (ds : List Descriptor) → following_place (option_map suc place) (d ∷ ds) ≡ following_place place ds
following_place_more None d ds = refl
following_place_more (Some k) d ds =
    let e : suc k + 1 ≡ suc (k + 1) = omega arith in
    ap (λ n. following (drop n (d ∷ ds))) e

row_here : (n : ℕ) (d : Descriptor) (ds : List Descriptor) → is_interface_of n d ≡ true → interface_row n (d ∷ ds) ≡ following ds
row_here n d ds e = ap (λ place. following_place place (d ∷ ds)) (position_here (is_interface_of n) d ds e)

row_later : (n : ℕ) (d : Descriptor) (ds : List Descriptor) → is_interface_of n d ≡ false → interface_row n (d ∷ ds) ≡ interface_row n ds
row_later n d ds e =
    ap (λ place. following_place place (d ∷ ds)) (position_more (is_interface_of n) d ds e)
    ∙ following_place_more (position (is_interface_of n) ds) d ds

-- what a part of a row has, the row has
any_take : (test : Descriptor → Bool) (k : ℕ) (ds : List Descriptor) → list_any test (take k ds) ≡ true → list_any test ds ≡ true
any_take test zero [] h = h
any_take test zero (d ∷ ds) h = absurd (true≢false (sym h))
any_take test (suc k) [] h = h
any_take test (suc k) (d ∷ ds) h = elim (cases_Bool (test d)) [
  | inl e ↦ rw e refl
  | inr e ↦ rw e (any_take test k ds (rw e at h))
]

any_drop : (test : Descriptor → Bool) (k : ℕ) (ds : List Descriptor) → list_any test (drop k ds) ≡ true → list_any test ds ≡ true
any_drop test zero ds h = h
any_drop test (suc k) [] h = h
any_drop test (suc k) (d ∷ ds) h = elim (cases_Bool (test d)) [
  | inl e ↦ rw e refl
  | inr e ↦ rw e (any_drop test k ds h)
]

any_up_to : (test : Descriptor → Bool) (place : Option ℕ) (ds : List Descriptor) → list_any test (up_to place ds) ≡ true → list_any test ds ≡ true
any_up_to test None ds h = h
any_up_to test (Some k) ds h = any_take test k ds h

any_following : (test : Descriptor → Bool) (place : Option ℕ) (ds : List Descriptor) → list_any test (following_place place ds) ≡ true → list_any test ds ≡ true
any_following test None ds h = absurd (true≢false (sym h))
any_following test (Some k) ds h = any_drop test (k + 1) ds (any_up_to test (position is_interface (drop (k + 1) ds)) (drop (k + 1) ds) h)

-- an owner has the endpoints up to the next interface
in_following : (who : ℕ → Owner) (o : Owner) (ds : List Descriptor) (a : ℕ) → list_any (is_endpoint_at a) (following ds) ≡ true
    → endpoint_owner (find (is_addressed a) (endpoints_behind who o ds)) ≡ o
in_following who o [] a h = absurd (true≢false (sym h))
in_following who o (d ∷ ds) a h =
    elim (cases_Bool (is_interface d)) [
      | inl i ↦ absurd (true≢false (sym h ∙ ap (list_any (is_endpoint_at a)) (following_none d ds i)))
      | inr i ↦
          let h' : list_any (is_endpoint_at a) (d ∷ following ds) ≡ true = sym (ap (list_any (is_endpoint_at a)) (following_more d ds i)) ∙ h in
          elim (cases_Bool (is_endpoint d)) [
            | inl e ↦ elim (cases_Bool (eqb (address d) a)) [
              | inl t ↦ rw (e, t) refl
              | inr t ↦ rw (e, t) (in_following who o ds a (rw (e, t) at h'))
            ]
            | inr e ↦ rw (e, i) (in_following who o ds a (rw e at h'))
          ]
    ]

-- the first interface of a number has that number's owner
pub in_interfaces : (who : ℕ → Owner) (ds : List Descriptor) (n : ℕ) → list_any (is_interface_of n) ds ≡ true
    → interface_owner (find (is_numbered n) (interfaces_by who ds)) ≡ who n
in_interfaces who [] n h = absurd (true≢false (sym h))
in_interfaces who (d ∷ ds) n h =
    elim (cases_Bool (is_interface d)) [
      | inl i ↦ elim (cases_Bool (eqb (number d) n)) [
        | inl t ↦ let same : number d ≡ n = grind (arith, nat_tests) in rw (i, t) (ap who same)
        | inr t ↦ rw (i, t) (in_interfaces who ds n (rw (i, t) at h))
      ]
      | inr i ↦ rw i (in_interfaces who ds n (rw i at h))
    ]

none_same : (x : ℕ) (ys : List ℕ) → AllByRecursion (λ y. eqb x y ≡ false) ys → list_any (eqb x) ys ≡ false
none_same x [] h = refl
none_same x (y ∷ ys) h = rw (h.0, none_same x ys h.1) refl

-- an address that an endpoint behind has isn't this one's
other_address : (d : Descriptor) (ds : List Descriptor) (a : ℕ) → AllByRecursion (λ y. eqb (address d) y ≡ false) (addresses ds)
    → list_any (is_endpoint_at a) ds ≡ true → eqb (address d) a ≡ false
other_address d ds a apart there =
    elim (cases_Bool (eqb (address d) a)) [
      | inl t ↦
          let same : address d ≡ a = grind (arith, nat_tests) in
          let none : list_any (eqb a) (addresses ds) ≡ false = ap (λ x. list_any (eqb x) (addresses ds)) (sym same) ∙ none_same (address d) (addresses ds) apart in
          absurd (true≢false (sym there ∙ any_same a ds ∙ none))
      | inr t ↦ t
    ]

not_endpoint : (d : Descriptor) → is_interface d ≡ true → is_endpoint d ≡ false
not_endpoint d h = grind (arith, nat_tests)

in_row : (who : ℕ → Owner) (before : Owner) (row : List Descriptor) (n a : ℕ) → IsDistinct eqb (addresses row)
    → list_any (is_endpoint_at a) (interface_row n row) ≡ true → endpoint_owner (find (is_addressed a) (endpoints_behind who before row)) ≡ who n
unfolding IsDistinct
in_row who before [] n a apart h = absurd (true≢false (sym h))
in_row who before (d ∷ ds) n a apart h =
    let any = λ (xs : List Descriptor). list_any (is_endpoint_at a) xs in
    elim (cases_Bool (is_interface_of n d)) [
      | inl t ↦
          let i : is_interface d ≡ true = grind (arith, nat_tests) in
          let same : number d ≡ n = grind (arith, nat_tests) in
          rw (not_endpoint d i, i) (in_following who (who (number d)) ds a (sym (ap any (row_here n d ds t)) ∙ h) ∙ ap who same)
      | inr t ↦
          let h' : any (interface_row n ds) ≡ true = sym (ap any (row_later n d ds t)) ∙ h in
          elim (cases_Bool (is_endpoint d)) [
            | inl e ↦
                let apart' = rw e at apart in
                let there = any_following (is_endpoint_at a) (position (is_interface_of n) ds) ds h' in
                rw (e, other_address d ds a apart'.0 there) (in_row who before ds n a apart'.1 h')
            | inr e ↦ rw e (in_row who (owner_behind who before d) ds n a (rw e at apart) h')
          ]
    ]

-- where an interface has endpoints it is there
has_interface : (row : List Descriptor) (n a : ℕ) → list_any (is_endpoint_at a) (interface_row n row) ≡ true → list_any (is_interface_of n) row ≡ true
has_interface [] n a h = absurd (true≢false (sym h))
has_interface (d ∷ ds) n a h =
    elim (cases_Bool (is_interface_of n d)) [
      | inl t ↦ rw t refl
      | inr t ↦ rw t (has_interface ds n a (sym (ap (list_any (is_endpoint_at a)) (row_later n d ds t)) ∙ h))
    ]

pub are_grouped : (set : Set) (limits : EpLimits) → IsAccepted set limits → AreAlwaysGrouped set
are_grouped set limits accepted built n a h =
    let left = left_of (row_of set.config) in
    let who = owner_by built left in
    in_row who Core left n a (addresses_are_good set limits accepted).0 h ∙ sym (in_interfaces who left n (has_interface left n a h))

-- The interfaces of an accepted set have distinct numbers, by the ninth rule, so that the one that stands for a class is the class's.
use Rattle.std.proofs.Common.{◌≡◌, ℕ, ◌+◌, List, [], ◌∷◌, ◌++◌, Bool, true, false, true≢false, not, cond, eqb, ltb, length, map, get_or, Option, Some, None, refl, ap, sym, subst, ◌∙◌, arith, append-nil, length-append, inl, inr, eq-eqb}
use Rattle.std.specs.Prelude.{filter, count_by, is_some, ◌||◌}
use Rattle.std.specs.List.{list_any, IsDistinct, AllByRecursion}
use Rattle.std.specs.Option.{option_map}
use Rattle.std.specs.Cmp.{nat_eq_equiv}
use Rattle.std.proofs.lemmas.Bool.{cases_Bool}
use Rattle.std.proofs.lemmas.Bool.Decides.{nat_tests}
use Rattle.std.proofs.lemmas.List.{map-append}
use Rattle.std.proofs.lemmas.List.Elements.{filter-append}
use Rattle.std.proofs.lemmas.List.Sums.{length-filter}
use Rattle.std.proofs.lemmas.List.{length-map}
use Rattle.std.proofs.lemmas.Map.Keys.{IsDistinct-push}
use Rattle.usb_packet.specs.declared.bus.Owner.{Owner}
use Rattle.usb_packet.specs.declared.bus.Owner.TheVariants.{Core}
use Rattle.descriptor_row.specs.declared.descriptor.Descriptor.{Descriptor}
use Rattle.descriptor_row.specs.Row.{row_of}
use Rattle.descriptor_row.specs.Kinds.{is_interface, number, left_of}
use Rattle.descriptor_groups.specs.Groups.{lead, is_number_of, group_owner, owner_by, numbers, lead_by}
use Rattle.descriptor_groups.proofs.Leads.{leads_belong, interface_there, lead_is_some}
use Rattle.usb_descriptor.specs.declared.limits.EpLimits.{EpLimits}
use Rattle.usb_descriptor.specs.declared.rule.Rule.TheVariants as rule
use Rattle.usb_descriptor.specs.Rules.{has_wrong_number, first_broken, breaks}
use Rattle.usb_descriptor.specs.Verdict.{fault_if}
use Rattle.usb_descriptor.specs.Set.{Set, IsAccepted, interface_at, is_core, belongs, same_owner}
use Rattle.usb_descriptor.specs.Owners.{AreLed}
use Rattle.usb_descriptor.proofs.Apart.{apart}
use Rattle.usb_descriptor.proofs.Thirty.{all_more, kept}
use Rattle.usb_descriptor.proofs.Served.{unbroken_rules}
use Rattle.usb_descriptor.proofs.Grouped.{in_interfaces}

abbrev Below : ℕ → List ℕ → Type 0
Below n xs = AllByRecursion (λ x. ltb x n ≡ true) xs

-- numbers that differ, each below how many there are
abbrev Counted : List ℕ → Type 0
Counted xs = IsDistinct eqb xs × Below (length xs) xs

below_more : (n m : ℕ) (xs : List ℕ) → m ≡ n + 1 → Below n xs → Below m xs
below_more n m [] e h = tt
below_more n m (x ∷ xs) e h = let first = h.0 in (grind (arith, nat_tests), below_more n m xs e h.1)

below_new : (n : ℕ) (xs : List ℕ) → Below n xs → list_any (eqb n) xs ≡ false
below_new n [] h = refl
below_new n (x ∷ xs) h = let first = h.0 in let other : eqb n x ≡ false = grind (arith, nat_tests) in rw (other, below_new n xs h.1) refl

numbers-append : (xs ys : List Descriptor) → numbers (xs ++ ys) ≡ numbers xs ++ numbers ys
numbers-append xs ys = ap (map number) (filter-append is_interface xs ys) ∙ map-append number (filter is_interface xs) (filter is_interface ys)

one_more : (before : List Descriptor) (d : Descriptor) → has_wrong_number before d ≡ false → Counted (numbers before) → Counted (numbers (before ++ d ∷ []))
one_more before d h c =
    elim (cases_Bool (is_interface d)) [
      | inl i ↦
          let count : length (numbers before) ≡ count_by is_interface before = length-map (filter is_interface before) number ∙ length-filter is_interface before in
          let right = rw i at h in
          let is : number d ≡ length (numbers before) = grind (arith, nat_tests, right, count) in
          let same : numbers (before ++ d ∷ []) ≡ numbers before ++ number d ∷ [] = numbers-append before (d ∷ []) ∙ ap (λ xs. numbers before ++ xs) (rw i refl) in
          let new : list_any (eqb (number d)) (numbers before) ≡ false = subst (λ n. list_any (eqb n) (numbers before) ≡ false) (sym is) (below_new (length (numbers before)) (numbers before) c.1) in
          let more : length (numbers before ++ number d ∷ []) ≡ length (numbers before) + 1 = length-append (numbers before) (number d ∷ []) in
          let low : ltb (number d) (length (numbers before ++ number d ∷ [])) ≡ true = grind (arith, nat_tests) in
          subst Counted (sym same) (
            IsDistinct-push nat_eq_equiv (numbers before) (number d) c.0 new,
            all_more (λ x. ltb x (length (numbers before ++ number d ∷ [])) ≡ true) (numbers before) (number d) (below_more (length (numbers before)) (length (numbers before ++ number d ∷ [])) (numbers before) more c.1) low,
          )
      | inr i ↦
          let same : numbers (before ++ d ∷ []) ≡ numbers before = numbers-append before (d ∷ []) ∙ ap (λ xs. numbers before ++ xs) (rw i refl) ∙ append-nil (numbers before) in
          subst Counted (sym same) c
    ]

none_at : (place : Option ℕ) (b : Bool) → fault_if 9 (is_some place || b) ≡ None → place ≡ None
none_at None b h = refl
none_at (Some p) b h = absurd (cc)

numbers_differ : (set : Set) (limits : EpLimits) → IsAccepted set limits → IsDistinct eqb (numbers (left_of (row_of set.config)))
unfolding IsDistinct
numbers_differ set limits h =
    let left = left_of (row_of set.config) in
    let none = none_at (first_broken limits rule.Numbers left) (not (eqb (count_by is_interface left) (get_or set.config 4 0))) (unbroken_rules set limits h).1.0 in
    (kept (breaks limits rule.Numbers left) (λ ds. Counted (numbers ds)) (λ before d after. one_more before d) [] left (tt, tt) none).0

-- the number of the interface that stands for a class that is built
led : (b : Bool) (o : Option Descriptor) (n : ℕ) → cond b (option_map number o) None ≡ Some n → (b ≡ true) × (is_number_of o n ≡ true)
led false o n h = absurd (cc)
led true None n h = absurd (cc)
led true (Some d) n h = let same : number d ≡ n = cc in (refl, eq-eqb (number d) n same)

own : (set : Set) (limits : EpLimits) → IsAccepted set limits → (built : Owner → Bool) (class : Owner) (n : ℕ)
    → lead_by built (left_of (row_of set.config)) class ≡ Some n → owner_by built (left_of (row_of set.config)) n ≡ class
own set limits h built class n e =
    let left = left_of (row_of set.config) in
    let p = led (built class) (lead class left) n e in
    let g = leads_belong left class n (numbers_differ set limits h) p.1 in
    ap (λ o. cond (built o) o Core) g ∙ ap (λ b. cond b class Core) p.0

-- an interface of a class
record Has (who : ℕ → Owner) (class : Owner) : Type 0 where
  pub at : ℕ
  pub is : who at ≡ class

has_one : (who : ℕ → Owner) (class : Owner) (ds : List Descriptor) → list_any (belongs class) (map (interface_at who) ds) ≡ true → Has who class
has_one who class [] h = absurd (true≢false (sym h))
has_one who class (d ∷ ds) h =
    elim (cases_Bool (same_owner (who (number d)) class)) [
      | inl e ↦ record { at = number d; is = apart (who (number d)) class e }
      | inr e ↦ has_one who class ds (rw e at h)
    ]

chosen : (b : Bool) (o class : Owner) → cond b o Core ≡ class → (class ≡ Core → ⊥) → (b ≡ true) × (o ≡ class)
chosen true o class h other = (refl, h)
chosen false o class h other = absurd (other (sym h))

no_core : (class : Owner) → is_core class ≡ false → class ≡ Core → ⊥
no_core class h e = true≢false (sym (ap is_core e) ∙ h)

some_number : (b : Bool) (o : Option Descriptor) → b ≡ true → is_some o ≡ true → is_some (cond b (option_map number o) None) ≡ true
some_number true (Some d) e h = refl
some_number true None e h = h
some_number false o e h = absurd (true≢false (sym e))

there : (row : List Descriptor) (built : Owner → Bool) (class : Owner) → is_core class ≡ false
    → list_any (belongs class) (map (interface_at (owner_by built row)) (filter is_interface row)) ≡ true → is_some (lead_by built row class) ≡ true
there row built class h any =
    let one = has_one (owner_by built row) class (filter is_interface row) any in
    let p = chosen (built (group_owner row one.at)) (group_owner row one.at) class one.is (no_core class h) in
    some_number (built class) (lead class row) (subst (λ o. built o ≡ true) p.1 p.0) (lead_is_some row class one.at p.1 (no_core class h))

pub are_led : (set : Set) (limits : EpLimits) → IsAccepted set limits → (built : Owner → Bool) → AreLed set built
are_led set limits h built =
    let left = left_of (row_of set.config) in
    record {
      own = λ class n e.
          let p = led (built class) (lead class left) n e in
          in_interfaces (owner_by built left) left n (interface_there class left n p.1) ∙ own set limits h built class n e;
      there = there left built;
    }

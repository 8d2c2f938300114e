-- An accepted set has endpoints that are served: what the rules on addresses, on packets and on the highest numbers
-- give of each descriptor goes over to the endpoints.
use Rattle.std.proofs.Common.{◌≡◌, ℕ, ◌<◌, ◌≤◌, List, [], ◌∷◌, Bool, true, false, eqb, length, map, get_or, None, refl, ap, sym, subst, arith, inl, inr, Fits, w8}
use Rattle.std.specs.Prelude.{◌⊎◌}
use Rattle.std.specs.List.{IsDistinct, AllByRecursion}
use Rattle.std.proofs.lemmas.Bool.{cases_Bool}
use Rattle.std.proofs.lemmas.Bool.Decides.{nat_tests}
use Rattle.descriptor_row.specs.declared.descriptor.Descriptor.{Descriptor}
use Rattle.descriptor_row.specs.Row.{byte, row_of}
use Rattle.descriptor_row.specs.Kinds.{is_endpoint, is_in, address, transfer, bulk, left_of}
use Rattle.usb_descriptor.specs.declared.limits.EpLimits.{EpLimits}
use Rattle.usb_descriptor.specs.declared.rule.Rule.TheVariants as rule
use Rattle.usb_descriptor.specs.declared.endpoint.Endpoint.{Endpoint}
use Rattle.usb_descriptor.specs.Rules.{has_wrong_packets, has_wrong_top, first_from, first_broken}
use Rattle.usb_descriptor.specs.Verdict.{device_fault, config_fault, row_fault, rule_fault, has_bad_report, rules, first_fault, earlier}
use Rattle.usb_packet.specs.declared.bus.Owner.{Owner}
use Rattle.usb_packet.specs.declared.bus.Owner.TheVariants.{Core}
use Rattle.descriptor_groups.specs.Groups.{owner_of_number}
use Rattle.usb_descriptor.specs.Set.{Set, IsAccepted, owner_behind, endpoints_behind, endpoints_of}
use Rattle.usb_descriptor.specs.Served.{IsOutAddress, IsInAddress, IsServed, AreServed}
use Rattle.usb_descriptor.proofs.Thirty.{addresses, valid, Valid, Small, Good, row_small, left_small, all_more, kept, all_good, few, length-behind, earlier_parts, no_fault, place_none}

-- a number that isn't above the highest of its direction
served_address : (limits : EpLimits) (d : Descriptor) → is_endpoint d ≡ true → address d < 256 → valid (address d) ≡ true
    → has_wrong_top limits d ≡ false → IsOutAddress limits (address d) ⊎ IsInAddress limits (address d)
served_address limits d e small v h =
    let t = rw e at h in
    elim (cases_Bool (is_in d)) [
      | inl i ↦ let n = rw i at t in inr (grind (arith, nat_tests), grind (arith, nat_tests))
      | inr i ↦ let n = rw i at t in inl (grind (arith, nat_tests), grind (arith, nat_tests))
    ]

-- the word of a packet's size is 1 to 64, so that its lower byte is all of it
served_size : (d : Descriptor) → is_endpoint d ≡ true → has_wrong_packets d ≡ false → (1 ≤ byte d 4) × (byte d 4 ≤ 64)
served_size d e h =
    let t = rw e at h in
    elim (cases_Bool (eqb (transfer d) bulk)) [
      | inl b ↦ let n = rw b at t in (grind (arith, nat_tests), grind (arith, nat_tests))
      | inr b ↦ let n = rw b at t in (grind (arith, nat_tests), grind (arith, nat_tests))
    ]

-- what a rule forbids of each descriptor by itself, none of a row has
unbroken : (broken : Descriptor → Bool) (row : List Descriptor) → first_from (λ before d after. broken d) [] row ≡ None
    → AllByRecursion (λ d. broken d ≡ false) row
unbroken broken row h =
    let P = λ (ds : List Descriptor). AllByRecursion (λ d. broken d ≡ false) ds in
    kept (λ before d after. broken d) P (λ before d after e all. all_more (λ d. broken d ≡ false) before d all e) [] row tt h

each_served : (limits : EpLimits) (owner : ℕ → Owner) (before : Owner) (ds : List Descriptor) → Small ds → Valid (addresses ds)
    → AllByRecursion (λ d. has_wrong_packets d ≡ false) ds → AllByRecursion (λ d. has_wrong_top limits d ≡ false) ds
    → AllByRecursion (IsServed limits) (endpoints_behind owner before ds)
each_served limits owner before [] s v p t = tt
each_served limits owner before (d ∷ ds) s v p t =
    elim (cases_Bool (is_endpoint d)) [
      | inl e ↦
          let v' = rw e at v in
          let size = served_size d e p.0 in
          rw e ((served_address limits d e s.0 v'.0 t.0, size.0, size.1), each_served limits owner before ds s.1 v'.1 p.1 t.1)
      | inr e ↦ rw e (each_served limits owner (owner_behind owner before d) ds s.1 (rw e at v) p.1 t.1)
    ]

addresses_of : (owner : ℕ → Owner) (before : Owner) (ds : List Descriptor) → map (λ (e : Endpoint). e.addr) (endpoints_behind owner before ds) ≡ addresses ds
addresses_of owner before [] = refl
addresses_of owner before (d ∷ ds) =
    elim (cases_Bool (is_endpoint d)) [
      | inl e ↦ rw e (ap (λ xs. address d ∷ xs) (addresses_of owner before ds))
      | inr e ↦ rw e (addresses_of owner (owner_behind owner before d) ds)
    ]

-- an accepted set breaks no rule from the eighth on
pub unbroken_rules : (set : Set) (limits : EpLimits) → IsAccepted set limits
    → AllByRecursion (λ r. rule_fault limits (row_of set.config) (left_of (row_of set.config)) (get_or set.config 4 0)
    (has_bad_report limits (left_of (row_of set.config)) set.report) r ≡ None) rules
unbroken_rules set limits h =
    let f = rule_fault limits (row_of set.config) (left_of (row_of set.config)) (get_or set.config 4 0) (has_bad_report limits (left_of (row_of set.config)) set.report) in
    let later = earlier (config_fault set.config) (earlier (row_fault set.config) (first_fault f rules)) in
    let x = earlier_parts (device_fault set.device) later h in
    let y = earlier_parts (config_fault set.config) (earlier (row_fault set.config) (first_fault f rules)) x.1 in
    let z = earlier_parts (row_fault set.config) (first_fault f rules) y.1 in
    no_fault f rules z.1

pub addresses_are_good : (set : Set) (limits : EpLimits) → IsAccepted set limits → Good (addresses (left_of (row_of set.config)))
addresses_are_good set limits h =
    let left = left_of (row_of set.config) in
    all_good limits left (place_none 11 (first_broken limits rule.Addresses left) (unbroken_rules set limits h).1.1.1.0)

pub are_served : (set : Set) (limits : EpLimits) → ((i : ℕ) → Fits w8 (get_or set.config i 0)) → IsAccepted set limits
    → AreServed limits (endpoints_of set.config)
are_served set limits bytes h =
    let left = left_of (row_of set.config) in
    let none = unbroken_rules set limits h in
    let good = addresses_are_good set limits h in
    let packets = unbroken has_wrong_packets left (place_none 12 (first_broken limits rule.Packets left) none.1.1.1.1.0) in
    let tops = unbroken (has_wrong_top limits) left (place_none 13 (first_broken limits rule.Tops left) none.1.1.1.1.1.0) in
    let small = left_small (row_of set.config) 0 (row_small set.config bytes (length set.config) 9) in
    record {
      distinct = subst (λ xs. IsDistinct eqb xs) (sym (addresses_of (owner_of_number left) Core left)) good.0;
      each = each_served limits (owner_of_number left) Core left small good.1 packets tops;
      few = subst (λ n. n ≤ 30) (sym (length-behind (owner_of_number left) Core left)) (few left small good);
    }

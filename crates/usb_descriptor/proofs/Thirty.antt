-- A set whose endpoints have good addresses has at most thirty: each number from 1 to 15 once in each direction.
use Rattle.std.proofs.Common.{◌≡◌, ℕ, zero, suc, ◌+◌, ◌/◌, ◌%◌, ◌<◌, ◌≤◌, List, [], ◌∷◌, ◌++◌, Bool, true, false, not, ◌&&◌, ◌||◌, cond, eqb, ltb, length, map, drop, get_or, Option, Some, None, IfNone, refl, ap, sym, ◌∙◌, subst, arith, append_assoc, append-nil, length-append, inl, inr, Fits, w8}
use Rattle.std.specs.Prelude.{filter}
use Rattle.std.specs.List.{list_any, IsDistinct, AllByRecursion}
use Rattle.std.specs.Cmp.{nat_eq_equiv}
use Rattle.std.proofs.lemmas.Bool.{agree_below_at, cases_Bool, or_parts, and_from, not-false}
use Rattle.std.proofs.lemmas.Bool.Decides.{nat_tests}
use Rattle.std.proofs.lemmas.List.{map-append, length-map, drop_more}
use Rattle.std.proofs.lemmas.List.Elements.{filter-append}
use Rattle.std.proofs.lemmas.Map.Keys.{IsDistinct-push}
use Rattle.std.proofs.lemmas.Map.Made.{length-le_from_is_member}
use Rattle.descriptor_row.specs.declared.descriptor.Descriptor.{Descriptor}
use Rattle.usb_descriptor.specs.declared.limits.EpLimits.{EpLimits}
use Rattle.usb_descriptor.specs.declared.limits.SetFault.{SetFault}
use Rattle.usb_descriptor.specs.declared.rule.Rule.{Rule}
use Rattle.usb_descriptor.specs.declared.rule.Rule.TheVariants as rule
use Rattle.descriptor_row.specs.Row.{byte_at, begins_at, row_from, row_of}
use Rattle.descriptor_row.specs.Kinds.{is_endpoint, address, transfer, bulk, setting_at, left_after, left_of}
use Rattle.usb_descriptor.specs.declared.endpoint.Endpoint.{Endpoint}
use Rattle.usb_packet.specs.declared.bus.Owner.{Owner}
use Rattle.usb_packet.specs.declared.bus.Owner.TheVariants.{Core}
use Rattle.usb_descriptor.specs.Set.{owner_behind, endpoints_behind, endpoints_by}
use Rattle.usb_descriptor.specs.Rules.{is_endpoint_at, has_wrong_address, breaks, first_from, first_broken}
use Rattle.usb_descriptor.specs.Verdict.{fault_at, earlier, rule_fault, rules, first_fault}

abbrev pub addresses : List Descriptor → List ℕ
addresses ds = map address (filter is_endpoint ds)

-- bits 6 to 4 are 0, and the number isn't
abbrev pub valid : ℕ → Bool
valid a = eqb (a / 16 % 8) 0 && not (eqb (a % 16) 0)

abbrev pub Valid : List ℕ → Type 0
Valid xs = AllByRecursion (λ a. valid a ≡ true) xs

abbrev thirty : List ℕ
thirty = 1 ∷ 2 ∷ 3 ∷ 4 ∷ 5 ∷ 6 ∷ 7 ∷ 8 ∷ 9 ∷ 10 ∷ 11 ∷ 12 ∷ 13 ∷ 14 ∷ 15
    ∷ 129 ∷ 130 ∷ 131 ∷ 132 ∷ 133 ∷ 134 ∷ 135 ∷ 136 ∷ 137 ∷ 138 ∷ 139 ∷ 140 ∷ 141 ∷ 142 ∷ 143 ∷ []

among : (a : ℕ) → a < 256 → (not (valid a) || list_any (eqb a) thirty) ≡ true
among a h = agree_below_at (λ n. not (valid n) || list_any (eqb n) thirty) (λ n. true) 256 a refl h

or_right : (x y : Bool) → (not x || y) ≡ true → x ≡ true → y ≡ true
or_right true y h e = h
or_right false y h e = absurd (cc)

wrong_parts : (x a b c d : Bool) → x ≡ true → (x && (a || (b || (c || d)))) ≡ false → (a ≡ false) × (b ≡ false) × (c ≡ false)
wrong_parts false a b c d e h = absurd (cc)
wrong_parts true a b c d e h =
    let p = or_parts a (b || (c || d)) h in
    let q = or_parts b (c || d) p.1 in
    let r = or_parts c d q.1 in
    (p.0, q.0, r.0)

cond_none : {X : Type 0} (b : Bool) (x : X) (o : Option X) → cond b (Some x) o ≡ None → (b ≡ false) × (o ≡ None)
cond_none true x o h = absurd (cc)
cond_none false x o h = (refl, h)

-- the bytes of a row are bytes
abbrev pub Small : List Descriptor → Type 0
Small [] = Unit {0}
Small (d ∷ ds) = (address d < 256) × Small ds

byte_small : (config : List ℕ) (at k : ℕ) → ((i : ℕ) → Fits w8 (get_or config i 0)) → byte_at config at k < 256
byte_small config at k h =
    let f = h (at + k) in
    elim (cases_Bool (ltb k (get_or config at 0))) [
      | inl e ↦ rw e (omega arith)
      | inr e ↦ rw e (omega arith)
    ]

pub row_small : (config : List ℕ) → ((i : ℕ) → Fits w8 (get_or config i 0)) → (more at : ℕ) → Small (row_from more at config)
row_small config h zero at = tt
row_small config h (suc more) at =
    elim (cases_Bool (begins_at config at)) [
      | inl e ↦ rw e (byte_small config at 2 h, row_small config h more (at + get_or config at 0))
      | inr e ↦ rw e tt
    ]

pub left_small : (row : List Descriptor) (before : ℕ) → Small row → Small (left_after before row)
left_small [] before h = tt
left_small (d ∷ ds) before h =
    elim (cases_Bool (eqb (setting_at before d) 0)) [
      | inl e ↦ rw e (h.0, left_small ds (setting_at before d) h.1)
      | inr e ↦ rw e (left_small ds (setting_at before d) h.1)
    ]

-- each address of endpoints is among the thirty
each_among : (ds : List Descriptor) → Small ds → Valid (addresses ds) → (q : ℕ) → list_any (eqb q) (addresses ds) ≡ true → list_any (eqb q) thirty ≡ true
each_among [] s v q h = absurd (cc)
each_among (d ∷ ds) s v q h =
    elim (cases_Bool (is_endpoint d)) [
      | inl e ↦
          let v' = rw e at v in
          let h' = rw e at h in
          elim (cases_Bool (eqb q (address d))) [
            | inl t ↦
                let same : q ≡ address d = grind (arith, nat_tests, t) in
                rw same (or_right (valid (address d)) (list_any (eqb (address d)) thirty) (among (address d) s.0) v'.0)
            | inr t ↦ each_among ds s.1 v'.1 q (rw t at h')
          ]
      | inr e ↦ each_among ds s.1 (rw e at v) q (rw e at h)
    ]

pub all_more : {X : Type 0} (P : X → Type 0) (xs : List X) (x : X) → AllByRecursion P xs → P x → AllByRecursion P (xs ++ x ∷ [])
all_more P [] x all h = (h, tt)
all_more P (y ∷ ys) x all h = (all.0, all_more P ys x all.1 h)

-- an address that no endpoint before has
pub any_same : (a : ℕ) (ds : List Descriptor) → list_any (is_endpoint_at a) ds ≡ list_any (eqb a) (addresses ds)
any_same a [] = refl
any_same a (d ∷ ds) =
    elim (cases_Bool (is_endpoint d)) [
      | inl e ↦ rw (e, nat_eq_equiv.symm (address d) a, any_same a ds) refl
      | inr e ↦ rw e (any_same a ds)
    ]

addresses-append : (xs ys : List Descriptor) → addresses (xs ++ ys) ≡ addresses xs ++ addresses ys
addresses-append xs ys = ap (map address) (filter-append is_endpoint xs ys) ∙ map-append address (filter is_endpoint xs) (filter is_endpoint ys)

abbrev pub Good : List ℕ → Type 0
Good xs = IsDistinct eqb xs × Valid xs

one_more : (before : List Descriptor) (d : Descriptor) → has_wrong_address before d ≡ false → Good (addresses before) → Good (addresses (before ++ d ∷ []))
one_more before d h g =
    elim (cases_Bool (is_endpoint d)) [
      | inl e ↦
          let p = wrong_parts (is_endpoint d) (not (eqb (address d / 16 % 8) 0)) (eqb (address d % 16) 0) (list_any (is_endpoint_at (address d)) before) (ltb (transfer d) bulk) e h in
          let ok : valid (address d) ≡ true = and_from _ _ (not-false _ p.0) (ap not p.1) in
          let new : list_any (eqb (address d)) (addresses before) ≡ false = sym (any_same (address d) before) ∙ p.2 in
          let same : addresses (before ++ d ∷ []) ≡ addresses before ++ address d ∷ [] = addresses-append before (d ∷ []) ∙ ap (λ xs. addresses before ++ xs) (rw e refl) in
          subst Good (sym same) (IsDistinct-push nat_eq_equiv (addresses before) (address d) g.0 new, all_more (λ a. valid a ≡ true) (addresses before) (address d) g.1 ok)
      | inr e ↦
          let same : addresses (before ++ d ∷ []) ≡ addresses before = addresses-append before (d ∷ []) ∙ ap (λ xs. addresses before ++ xs) (rw e refl) ∙ append-nil (addresses before) in
          subst Good (sym same) g
    ]

-- what each descriptor keeps that doesn't break a rule holds of a row that doesn't
pub kept : (test : List Descriptor → Descriptor → List Descriptor → Bool) (P : List Descriptor → Type 0)
    → ((before : List Descriptor) (d : Descriptor) (after : List Descriptor) → test before d after ≡ false → P before → P (before ++ d ∷ []))
    → (before after : List Descriptor) → P before → first_from test before after ≡ None → P (before ++ after)
kept test P more before [] g h = subst P (sym (append-nil before)) g
kept test P more before (d ∷ after) g h =
    let p = cond_none (test before d after) (d.at) (first_from test (before ++ d ∷ []) after) h in
    subst P (append_assoc before (d ∷ []) after)
    (kept test P more (before ++ d ∷ []) after (more before d after p.0 g) p.1)

pub all_good : (limits : EpLimits) (row : List Descriptor) → first_broken limits rule.Addresses row ≡ None → Good (addresses row)
unfolding IsDistinct
all_good limits row h =
    kept (breaks limits rule.Addresses row) (λ ds. Good (addresses ds)) (λ before d after. one_more before d) [] row (tt, tt) h

pub few : (row : List Descriptor) → Small row → Good (addresses row) → length (filter is_endpoint row) ≤ 30
unfolding IsDistinct
few row s g =
    let n = length-le_from_is_member nat_eq_equiv (addresses row) thirty g.0 (each_among row s g.1) in
    subst (λ n. n ≤ 30) (length-map (filter is_endpoint row) address) n

pub earlier_parts : (a b : Option SetFault) → earlier a b ≡ None → (a ≡ None) × (b ≡ None)
earlier_parts None b h = (refl, h)
earlier_parts (Some f) b h = absurd (cc)

-- where none of some rules gives a fault, no one of them does
pub no_fault : (f : Rule → Option SetFault) (rs : List Rule) → first_fault f rs ≡ None → AllByRecursion (λ r. f r ≡ None) rs
no_fault f [] h = tt
no_fault f (r ∷ rs) h = let p = earlier_parts (f r) (first_fault f rs) h in (p.0, no_fault f rs p.1)

pub place_none : (rule : ℕ) (place : Option ℕ) → fault_at rule place ≡ None → place ≡ None
place_none rule None h = refl
place_none rule (Some at) h = absurd (cc)

pub few_endpoints : (config : List ℕ) (limits : EpLimits) (row left : List Descriptor) (claimed : ℕ) (reports : Bool) (r : Option SetFault)
    → ((i : ℕ) → Fits w8 (get_or config i 0)) → row ≡ row_of config → left ≡ left_of row
    → r ≡ first_fault (rule_fault limits row left claimed reports) rules → IfNone r (length (filter is_endpoint (left_of (row_of config))) ≤ 30)
few_endpoints config limits row left claimed reports (Some f) small er el e = tt
few_endpoints config limits row left claimed reports None small er el e =
    let f = rule_fault limits row left claimed reports in
    let n = place_none 11 (first_broken limits rule.Addresses left) ((no_fault f rules (sym e)).1.1.1.0) in
    let same : left ≡ left_of (row_of config) = el ∙ ap left_of er in
    few (left_of (row_of config)) (left_small (row_of config) 0 (row_small config small (length config) 9)) (all_good limits (left_of (row_of config)) (rw same at n))

-- there are as many endpoints as descriptors of them
pub length-behind : (owner : ℕ → Owner) (before : Owner) (ds : List Descriptor) → length (endpoints_behind owner before ds) ≡ length (filter is_endpoint ds)
length-behind owner before [] = refl
length-behind owner before (d ∷ ds) =
    elim (cases_Bool (is_endpoint d)) [
      | inl e ↦ rw e (ap suc (length-behind owner before ds))
      | inr e ↦ rw e (length-behind owner (owner_behind owner before d) ds)
    ]

-- there is room for one more endpoint while one is left
pub room : (owner : ℕ → Owner) (before : Owner) (row : List Descriptor) (items : List Endpoint) (i : ℕ) (d : Descriptor) → i < length row
    → is_endpoint (get_or row i d) ≡ true → items ++ endpoints_behind owner before (drop i row) ≡ endpoints_by owner row
    → length (filter is_endpoint row) ≤ 30 → length items < 30
room owner before row items i d h e same fits =
    let more : filter is_endpoint (drop i row) ≡ get_or row i d ∷ filter is_endpoint (drop (i + 1) row) = rw (drop_more row i d h, e) refl in
    let n = ap length more in
    let m = ap length same in
    omega (arith, n, m, length-append items (endpoints_behind owner before (drop i row)), length-behind owner before (drop i row), length-behind owner Core row)

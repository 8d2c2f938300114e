-- The interface that stands for a class is of its group: each class has a code of its own, and the data interface one too, so that
-- two of them have no number in common.
use Rattle.std.proofs.Common.{◌≡◌, ℕ, List, [], ◌∷◌, Bool, true, false, true≢false, ◌&&◌, ◌||◌, eqb, Option, Some, None, refl, sym, subst, ◌∙◌, arith, inl, inr}
use Rattle.std.specs.Prelude.{find, position, is_some, ◌⊎◌}
use Rattle.std.specs.List.{list_any, IsDistinct, AllByRecursion}
use Rattle.std.proofs.lemmas.Bool.{cases_Bool}
use Rattle.std.proofs.lemmas.Bool.Decides.{nat_tests}
use Rattle.usb_packet.specs.declared.bus.Owner.{Owner}
use Rattle.usb_packet.specs.declared.bus.Owner.TheVariants as owner
use Rattle.descriptor_row.specs.declared.descriptor.Descriptor.{Descriptor}
use Rattle.descriptor_row.specs.Row.{byte, kind}
use Rattle.descriptor_row.specs.Kinds.{is_interface, number, is_of_class, following_place}
use Rattle.descriptor_groups.specs.Parts.{is_serial, is_data, is_union}
use Rattle.descriptor_groups.specs.Groups.{is_lead, lead, is_number_of, group_owner, leads, union_behind, is_subordinate, is_serial_data, numbers, LeadsBelong}

-- the code of a class; that of the data interface is 10
abbrev code : Owner → ℕ
code owner.Core = 0
code owner.Cdc = 2
code owner.Hid = 3
code owner.Msc = 8
code owner.Midi = 1

-- an interface of a class's code and of a number
abbrev numbered : ℕ → ℕ → Descriptor → Bool
numbered k n d = is_of_class k d && eqb (number d) n

left_part : (a b : Bool) → (a && b) ≡ true → a ≡ true
left_part true b h = refl
left_part false b h = h

right_part : (a b : Bool) → (a && b) ≡ true → b ≡ true
right_part true b h = h
right_part false b h = absurd (true≢false (sym h))

front : (a b c : Bool) → a ≡ true → b ≡ true → ((a && b) || c) ≡ true
front true true c p q = refl
front true false c p q = absurd (true≢false (sym q))
front false b c p q = absurd (true≢false (sym p))

behind : (a c : Bool) → c ≡ true → (a || c) ≡ true
behind true c h = refl
behind false c h = h

skip : (a b c : Bool) → b ≡ false → ((a && b) || c) ≡ c
skip true true c h = absurd (true≢false h)
skip true false c h = refl
skip false b c h = refl

alone : (a c : Bool) → c ≡ false → (a || c) ≡ true → a ≡ true
alone true c e h = refl
alone false c e h = absurd (true≢false (sym h ∙ e))

neither : (a c : Bool) → a ≡ false → c ≡ false → (a || c) ≡ false
neither true c e h = absurd (true≢false e)
neither false c e h = h

lead_code : (class : Owner) (d : Descriptor) → is_lead class d ≡ true → is_of_class (code class) d ≡ true
lead_code owner.Core d h = absurd (true≢false (sym h))
lead_code owner.Cdc d h = left_part (is_of_class 2 d) (eqb (byte d 6) 2) h
lead_code owner.Hid d h = h
lead_code owner.Msc d h = left_part (is_of_class 8 d) (eqb (byte d 6) 6) (left_part (is_of_class 8 d && eqb (byte d 6) 6) (eqb (byte d 7) 80) h)
lead_code owner.Midi d h = left_part (is_of_class 1 d) (eqb (byte d 6) 3) h

-- the interface that stands for a class is there
lead_there : (class : Owner) (row : List Descriptor) (n : ℕ) → leads row class n ≡ true → list_any (numbered (code class) n) row ≡ true
lead_there class [] n h = absurd (true≢false (sym h))
lead_there class (d ∷ ds) n h =
    elim (cases_Bool (is_lead class d)) [
      | inl e ↦ front (is_of_class (code class) d) (eqb (number d) n) (list_any (numbered (code class) n) ds) (lead_code class d e) (rw e at h)
      | inr e ↦ behind (numbered (code class) n d) (list_any (numbered (code class) n) ds) (lead_there class ds n (rw e at h))
    ]

pub interface_there : (class : Owner) (row : List Descriptor) (n : ℕ) → leads row class n ≡ true
    → list_any (λ d. is_interface d && eqb (number d) n) row ≡ true
interface_there class [] n h = absurd (true≢false (sym h))
interface_there class (d ∷ ds) n h =
    let rest = list_any (λ (d : Descriptor). is_interface d && eqb (number d) n) ds in
    elim (cases_Bool (is_lead class d)) [
      | inl e ↦ front (is_interface d) (eqb (number d) n) rest (left_part (is_interface d) (eqb (byte d 5) (code class)) (lead_code class d e)) (rw e at h)
      | inr e ↦ behind (is_interface d && eqb (number d) n) rest (interface_there class ds n (rw e at h))
    ]

-- the data interface that a good union descriptor names is there
named_there : (row : List Descriptor) (k : ℕ) (d : Descriptor) → is_union row k d ≡ true → list_any (is_data (byte d 4)) row ≡ true
named_there row k d h =
    let there = list_any (is_data (byte d 4)) row in
    let a = right_part (eqb (kind d) 36) _ h in
    let b = right_part (eqb (byte d 2) 6) _ a in
    let c = right_part _ (eqb (byte d 3) k && there) b in
    right_part (eqb (byte d 3) k) there c

union_there : (row ds : List Descriptor) (k n : ℕ) → is_subordinate (find (is_union row k) ds) n ≡ true → list_any (is_data n) row ≡ true
union_there row [] k n h = absurd (true≢false (sym h))
union_there row (d ∷ ds) k n h =
    elim (cases_Bool (is_union row k d)) [
      | inl e ↦
          let t = rw e at h in
          let same : byte d 4 ≡ n = grind (arith, nat_tests, t) in
          subst (λ m. list_any (is_data m) row ≡ true) same (named_there row k d e)
      | inr e ↦ union_there row ds k n (rw e at h)
    ]

data_there : (row : List Descriptor) (first : Option Descriptor) (n : ℕ) → is_subordinate (union_behind row first) n ≡ true → list_any (is_data n) row ≡ true
data_there row None n h = absurd (true≢false (sym h))
data_there row (Some d) n h = union_there row (following_place (position is_serial row) row) (number d) n h

-- a number that no interface has
none_numbered : (k n : ℕ) (ds : List Descriptor) → AllByRecursion (λ y. eqb n y ≡ false) (numbers ds) → list_any (numbered k n) ds ≡ false
none_numbered k n [] all = refl
none_numbered k n (d ∷ ds) all =
    elim (cases_Bool (is_interface d)) [
      | inl i ↦
          let all' = rw i at all in
          let other : eqb (number d) n ≡ false = grind (arith, nat_tests, all'.0) in
          skip (is_of_class k d) (eqb (number d) n) (list_any (numbered k n) ds) other ∙ none_numbered k n ds all'.1
      | inr i ↦ rw i (none_numbered k n ds (rw i at all))
    ]

-- one descriptor has one class
one_class : (k j n : ℕ) (d : Descriptor) → eqb k j ≡ false → numbered k n d ≡ true → numbered j n d ≡ false
one_class k j n d other h = grind (arith, nat_tests)

-- interfaces of two classes have two numbers
apart : (k j n : ℕ) (row : List Descriptor) → eqb k j ≡ false → IsDistinct eqb (numbers row) → list_any (numbered k n) row ≡ true
    → list_any (numbered j n) row ≡ false
unfolding IsDistinct
apart k j n [] other distinct h = refl
apart k j n (d ∷ ds) other distinct h =
    elim (cases_Bool (is_interface d)) [
      | inl i ↦
          let distinct' = rw i at distinct in
          elim (cases_Bool (eqb (number d) n)) [
            | inl t ↦
                let same : number d ≡ n = grind (arith, nat_tests) in
                let all : AllByRecursion (λ y. eqb n y ≡ false) (numbers ds) = subst (λ m. AllByRecursion (λ y. eqb m y ≡ false) (numbers ds)) same distinct'.0 in
                let here : numbered k n d ≡ true = alone (numbered k n d) (list_any (numbered k n) ds) (none_numbered k n ds all) h in
                neither (numbered j n d) (list_any (numbered j n) ds) (one_class k j n d other here) (none_numbered j n ds all)
            | inr t ↦
                let later : list_any (numbered k n) ds ≡ true = sym (skip (is_of_class k d) (eqb (number d) n) (list_any (numbered k n) ds) t) ∙ h in
                skip (is_of_class j d) (eqb (number d) n) (list_any (numbered j n) ds) t ∙ apart k j n ds other distinct'.1 later
          ]
      | inr i ↦ rw i (apart k j n ds other (rw i at distinct) (rw i at h))
    ]

-- an interface that stands for a class stands for no other, and is no data interface
no_other : (row : List Descriptor) (class other : Owner) (n : ℕ) → eqb (code class) (code other) ≡ false → IsDistinct eqb (numbers row)
    → leads row class n ≡ true → leads row other n ≡ false
no_other row class other n codes distinct h =
    elim (cases_Bool (leads row other n)) [
      | inl t ↦
          absurd (true≢false (sym (lead_there other row n t) ∙ apart (code class) (code other) n row codes distinct (lead_there class row n h)))
      | inr t ↦ t
    ]

no_data : (row : List Descriptor) (class : Owner) (n : ℕ) → eqb (code class) 10 ≡ false → IsDistinct eqb (numbers row) → leads row class n ≡ true
    → is_serial_data row n ≡ false
no_data row class n codes distinct h =
    elim (cases_Bool (is_serial_data row n)) [
      | inl t ↦
          absurd (true≢false (sym (data_there row (lead owner.Cdc row) n t) ∙ apart (code class) 10 n row codes distinct (lead_there class row n h)))
      | inr t ↦ t
    ]

no_core : (row : List Descriptor) (n : ℕ) → leads row owner.Core n ≡ false
no_core [] n = refl
no_core (d ∷ ds) n = no_core ds n

pub leads_belong : LeadsBelong
leads_belong row owner.Core n distinct h = absurd (true≢false (sym h ∙ no_core row n))
leads_belong row owner.Cdc n distinct h = rw h refl
leads_belong row owner.Hid n distinct h =
    let a = no_other row owner.Hid owner.Cdc n refl distinct h in
    let b = no_data row owner.Hid n refl distinct h in
    rw (a, b, h) refl
leads_belong row owner.Msc n distinct h =
    let a = no_other row owner.Msc owner.Cdc n refl distinct h in
    let b = no_data row owner.Msc n refl distinct h in
    let c = no_other row owner.Msc owner.Hid n refl distinct h in
    rw (a, b, c, h) refl
leads_belong row owner.Midi n distinct h =
    let a = no_other row owner.Midi owner.Cdc n refl distinct h in
    let b = no_data row owner.Midi n refl distinct h in
    let c = no_other row owner.Midi owner.Hid n refl distinct h in
    let e = no_other row owner.Midi owner.Msc n refl distinct h in
    rw (a, b, c, e, h) refl

-- a class that has an interface has one that stands for it
number_is_some : (o : Option Descriptor) (n : ℕ) → is_number_of o n ≡ true → is_some o ≡ true
number_is_some None n h = h
number_is_some (Some d) n h = refl

union_is_some : (row : List Descriptor) (o : Option Descriptor) (n : ℕ) → is_subordinate (union_behind row o) n ≡ true → is_some o ≡ true
union_is_some row None n h = h
union_is_some row (Some d) n h = refl

of_group : (row : List Descriptor) (n : ℕ) → group_owner row n ≡ owner.Core ⊎ is_some (lead (group_owner row n) row) ≡ true
of_group row n =
    elim (cases_Bool (leads row owner.Cdc n)) [
      | inl a ↦ inr (rw a (number_is_some (lead owner.Cdc row) n a))
      | inr a ↦ elim (cases_Bool (is_serial_data row n)) [
        | inl b ↦ inr (rw (a, b) (union_is_some row (lead owner.Cdc row) n b))
        | inr b ↦ elim (cases_Bool (leads row owner.Hid n)) [
          | inl c ↦ inr (rw (a, b, c) (number_is_some (lead owner.Hid row) n c))
          | inr c ↦ elim (cases_Bool (leads row owner.Msc n)) [
            | inl d ↦ inr (rw (a, b, c, d) (number_is_some (lead owner.Msc row) n d))
            | inr d ↦ elim (cases_Bool (leads row owner.Midi n)) [
              | inl e ↦ inr (rw (a, b, c, d, e) (number_is_some (lead owner.Midi row) n e))
              | inr e ↦ inl (rw (a, b, c, d, e) refl)
            ]
          ]
        ]
      ]
    ]

pub lead_is_some : (row : List Descriptor) (class : Owner) (n : ℕ) → group_owner row n ≡ class → (class ≡ owner.Core → ⊥) → is_some (lead class row) ≡ true
lead_is_some row class n e other =
    elim (of_group row n) [
      | inl c ↦ absurd (other (sym e ∙ c))
      | inr h ↦ subst (λ o. is_some (lead o row) ≡ true) e h
    ]

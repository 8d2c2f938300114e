-- What the slots of disks in memory, and the disks by which they are told, are together.
use Rattle.std.proofs.Common.{◌≡◌, ℕ, zero, suc, ◌<◌, true, false, List, [], ◌∷◌, Option, Some, None, is_some, option_map, get_or, set, length, replicate, refl, ap, sym, ◌∙◌, arith, eq-eqb, ne_eqb, eqb-true, inl, inr, get_or-set_same, get_or-set_other, suc-ne-zero}
use Rattle.std.proofs.lemmas.Bool.{cases_Bool, cases_eq, eqb-false}
use Rattle.std.specs.List.{list_any}
use Rattle.usb_edge.specs.Disk.{is_slot, slot_left}
use Rattle.usb_edge.specs.Memory.{slot_of, AreInPlace}

-- which slot it is

pub same_slot : (s : ℕ) → is_slot s (Some s) ≡ true
same_slot s = eq-eqb s s refl

pub other_slot : (s : ℕ) (o : Option ℕ) → (o ≡ Some s → ⊥) → is_slot s o ≡ false
other_slot s None h = refl
other_slot s (Some n) h = ne_eqb n s (λ e. h (ap (λ (t : ℕ). Some t) e))

pub is_slot-Some : (s : ℕ) (o : Option ℕ) → is_slot s o ≡ true → o ≡ Some s
is_slot-Some s None h = cc
is_slot-Some s (Some n) h = ap (λ (t : ℕ). Some t) (eqb-true n s h)

same_number : (m n : ℕ) → ◌≡◌ {A = Option ℕ} (Some m) (Some n) → m ≡ n
same_number m n h = cc

suc-Some : (o : Option ℕ) (s : ℕ) → option_map suc o ≡ Some (suc s) → o ≡ Some s
suc-Some None s h = cc
suc-Some (Some n) s h = cc

suc-zero : (o : Option ℕ) → option_map suc o ≡ Some zero → ⊥
suc-zero None h = cc
suc-zero (Some n) h = cc

mapped_none : (o : Option ℕ) → option_map suc o ≡ None → o ≡ None
mapped_none None h = refl
mapped_none (Some n) h = cc

-- the slot that has a disk, and the disk that a slot has

pub slot_of-has : (slots : List (Option ℕ)) (i s : ℕ) → slot_of slots i ≡ Some s → get_or slots s None ≡ Some i
slot_of-has [] i s h = cc
slot_of-has (slot ∷ more) i zero h = elim (cases_Bool (is_slot i slot)) [
  | inl it ↦ is_slot-Some i slot it
  | inr not ↦ let e = rw not at h in absurd (suc-zero (slot_of more i) e)
]
slot_of-has (slot ∷ more) i (suc s) h = elim (cases_Bool (is_slot i slot)) [
  | inl it ↦ let e = rw it at h in cc
  | inr not ↦ let e = rw not at h in slot_of-has more i s (suc-Some (slot_of more i) s e)
]

-- a disk that no slot has

pub slot_of_none : (slots : List (Option ℕ)) (i : ℕ) → ((s : ℕ) → get_or slots s None ≡ Some i → ⊥) → slot_of slots i ≡ None
slot_of_none [] i h = refl
slot_of_none (slot ∷ more) i h =
    rw (other_slot i slot (h zero)) (ap (option_map suc) (slot_of_none more i (λ s. h (suc s))))

slot_of_free : (slots : List (Option ℕ)) (i s : ℕ) → slot_of slots i ≡ None → get_or slots s None ≡ Some i → ⊥
slot_of_free [] i s e h = cc
slot_of_free (slot ∷ more) i zero e h =
    let it : is_slot i slot ≡ true = rw h (same_slot i) in
    let f = rw it at e in
    cc
slot_of_free (slot ∷ more) i (suc s) e h = elim (cases_Bool (is_slot i slot)) [
  | inl it ↦ let f = rw it at e in cc
  | inr not ↦ let f = rw not at e in slot_of_free more i s (mapped_none (slot_of more i) f) h
]

get_or-none : (n s i : ℕ) → get_or (replicate n None) s None ≡ Some i → ⊥
get_or-none zero s i h = cc
get_or-none (suc n) zero i h = cc
get_or-none (suc n) (suc s) i h = get_or-none n s i h

-- slots that have no disk
pub none_in_place : (n count : ℕ) → AreInPlace (replicate n None) count
none_in_place n count = record {
  within = λ s i h. absurd (get_or-none n s i h);
  apart = λ s t i h k. absurd (get_or-none n s i h);
}

pub slot_of-has_it : (slots : List (Option ℕ)) (count i s : ℕ) → AreInPlace slots count → get_or slots s None ≡ Some i → slot_of slots i ≡ Some s
slot_of-has_it slots count i s place h = at_some (slot_of slots i) refl where
  at_some : (o : Option ℕ) → slot_of slots i ≡ o → slot_of slots i ≡ Some s
  at_some None e = absurd (slot_of_free slots i s e h)
  at_some (Some t) e = e ∙ ap (λ (n : ℕ). Some n) (place.apart t s i (slot_of-has slots i t e) h)

-- no other disk is the slot's
pub slot_of-other : (slots : List (Option ℕ)) (i k s : ℕ) → get_or slots s None ≡ Some i → (k ≡ i → ⊥) → slot_of slots k ≡ Some s → ⊥
slot_of-other slots i k s h apart e = apart (same_number k i (sym (slot_of-has slots k s e) ∙ h))

-- where a slot has a disk that no slot had

same_suc : (m n : ℕ) → suc m ≡ suc n → m ≡ n
same_suc m n e = omega arith

pub slot_of-set : (slots : List (Option ℕ)) (s i : ℕ) → s < length slots → slot_of slots i ≡ None → slot_of (set slots s (Some i)) i ≡ Some s
slot_of-set [] s i lt e = absurd (omega arith)
slot_of-set (slot ∷ more) zero i lt e = rw (same_slot i) refl
slot_of-set (slot ∷ more) (suc s) i lt e = elim (cases_Bool (is_slot i slot)) [
  | inl it ↦ let f = rw it at e in cc
  | inr not ↦ let f = rw not at e in rw not (ap (option_map suc) (slot_of-set more s i (omega arith) (mapped_none (slot_of more i) f)))
]

slot_left-suc : (s : ℕ) (o : Option ℕ) → slot_left (suc s) (option_map suc o) ≡ option_map suc (slot_left s o)
slot_left-suc s None = refl
slot_left-suc s (Some n) = elim (cases_Bool (is_slot s (Some n))) [
  | inl it ↦ let t : is_slot (suc s) (Some (suc n)) ≡ true = eq-eqb (suc n) (suc s) (ap suc (eqb-true n s it)) in rw (it, t) refl
  | inr not ↦ let t : is_slot (suc s) (Some (suc n)) ≡ false = ne_eqb (suc n) (suc s) (λ e. eqb-false n s not (omega arith)) in rw (not, t) refl
]

slot_left-zero : (o : Option ℕ) → slot_left zero (option_map suc o) ≡ option_map suc o
slot_left-zero None = refl
slot_left-zero (Some n) = rw (ne_eqb (suc n) zero (λ e. omega arith)) refl

pub slot_of-set_other : (slots : List (Option ℕ)) (s i k : ℕ) → s < length slots → ((t u n : ℕ) → get_or slots t None ≡ Some n → get_or slots u None ≡ Some n → t ≡ u) → (k ≡ i → ⊥) → slot_of (set slots s (Some i)) k ≡ slot_left s (slot_of slots k)
slot_of-set_other [] s i k lt apart ne = refl
slot_of-set_other (slot ∷ more) zero i k lt apart ne =
    rw (other_slot k (Some i) (λ e. ne (sym (same_number i k e)))) (elim (cases_Bool (is_slot k slot)) [
      | inl it ↦
          let none : slot_of more k ≡ None = slot_of_none more k (λ s h. suc-ne-zero s (sym (apart zero (suc s) k (is_slot-Some k slot it) h))) in
          rw (it, none) refl
      | inr not ↦ rw not (sym (slot_left-zero (slot_of more k)))
    ])
slot_of-set_other (slot ∷ more) (suc s) i k lt apart ne = elim (cases_Bool (is_slot k slot)) [
  | inl it ↦ rw (it, ne_eqb zero (suc s) (λ e. suc-ne-zero s (sym e))) refl
  | inr not ↦
      rw not
      (ap (option_map suc) (slot_of-set_other more s i k (omega arith) (λ t u n a b. same_suc t u (apart (suc t) (suc u) n a b)) ne)
      ∙ sym (slot_left-suc s (slot_of more k)))
]

pub in_place_set : (slots : List (Option ℕ)) (count s i : ℕ) → s < length slots → i < count → slot_of slots i ≡ None → AreInPlace slots count → AreInPlace (set slots s (Some i)) count
in_place_set slots count s i lt below e place = record {
  within = λ t k h. elim (cases_eq t s) [
    | inl same ↦ let f = rw (same, get_or-set_same slots s (Some i) None lt) at h in omega (arith, same_number i k f)
    | inr other ↦ place.within t k (sym (get_or-set_other slots s t (Some i) None other) ∙ h)
  ];
  apart = λ t u k h g. elim (cases_eq t s) [
    | inl same ↦ elim (cases_eq u s) [
      | inl also ↦ same ∙ sym also
      | inr other ↦
          let f = rw (same, get_or-set_same slots s (Some i) None lt) at h in
          absurd (slot_of_free slots i u e (sym (get_or-set_other slots s u (Some i) None other) ∙ g ∙ sym f))
    ]
    | inr other ↦ elim (cases_eq u s) [
      | inl also ↦
          let f = rw (also, get_or-set_same slots s (Some i) None lt) at g in
          absurd (slot_of_free slots i t e (sym (get_or-set_other slots s t (Some i) None other) ∙ h ∙ sym f))
      | inr neither ↦ place.apart t u k (sym (get_or-set_other slots s t (Some i) None other) ∙ h) (sym (get_or-set_other slots s u (Some i) None neither) ∙ g)
    ]
  ];
}

is_some-mapped : (o : Option ℕ) → is_some (option_map suc o) ≡ is_some o
is_some-mapped None = refl
is_some-mapped (Some n) = refl

-- whether a slot has the disk of an index
pub any_slot_of : (slots : List (Option ℕ)) (i : ℕ) → list_any (is_slot i) slots ≡ is_some (slot_of slots i)
any_slot_of [] i = refl
any_slot_of (slot ∷ more) i = elim (cases_Bool (is_slot i slot)) [
  | inl it ↦ rw it refl
  | inr not ↦ rw not (any_slot_of more i ∙ sym (is_some-mapped (slot_of more i)))
]

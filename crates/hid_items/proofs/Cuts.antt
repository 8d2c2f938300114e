-- The items of a descriptor are its bytes, cut by the grammar.
use Rattle.std.proofs.Common.{◌≡◌, ◌≢◌, ℕ, zero, suc, ◌+◌, ◌≤◌, ◌<◌, List, [], ◌∷◌, ◌++◌, length, take, drop, Ok, Err, refl, ap, sym, subst, ◌∙◌, arith, add-zero, inl, inr}
use Rattle.std.proofs.lemmas.Grind.{common_steps}
use Rattle.std.proofs.lemmas.Bool.{cases_lt}
use Rattle.std.proofs.Math.Seq.{take-append_seam, drop-append_seam}
use Rattle.std.proofs.lemmas.List.{length-append, take-append-drop}
use Rattle.std.proofs.lemmas.Bool.Decides.{eqb_tells, nat_tests}
use Rattle.hid_items.specs.declared.ItemFault.TheVariants.{Truncated, Long, Stack, Nest, Ids, Size}
use Rattle.hid_items.specs.Item.{Items, Has, Ends, Stops, data_size, data_at, items_with, items_from, items_of, AreItemsFrom, IsOnlyCut}
use Rattle.hid_items.proofs.Steps.{items_from-data}

-- Data that was read.
data_there : (place prefix : ℕ) (behind : List ℕ) → prefix ≢ 0xfe → data_size prefix ≤ length behind →
    data_at place prefix behind ≡ Ok (take (data_size prefix) behind)
data_there place prefix behind short fits = grind (arith, nat_tests)

data_long : (place prefix : ℕ) (behind : List ℕ) → prefix ≡ 0xfe → data_at place prefix behind ≡ Err (Long place)
data_long place prefix behind e = grind arith

data_cut_off : (place prefix : ℕ) (behind : List ℕ) → prefix ≢ 0xfe → length behind < data_size prefix →
    data_at place prefix behind ≡ Err (Truncated place)
data_cut_off place prefix behind short missing = grind (arith, nat_tests)

-- The item at the front, with items behind it that are cut well.
cut_one : (place prefix : ℕ) (behind : List ℕ) (rest : Items) →
    (data_size prefix ≤ length behind → AreItemsFrom (place + 1 + data_size prefix) (drop (data_size prefix) behind) rest) →
    AreItemsFrom place (prefix ∷ behind) (items_with place prefix (data_at place prefix behind) rest)
cut_one place prefix behind rest then = elim (eqb_tells prefix 0xfe) [
  | inl long ↦ rw (data_long place prefix behind long.1) (refl, (behind, ap (λ p. p ∷ behind) long.1))
  | inr short ↦ elim (cases_lt (length behind) (data_size prefix)) [
    | inl missing ↦ rw (data_cut_off place prefix behind short.1 missing) (refl, (prefix, behind, short.1, refl, missing))
    | inr fits ↦
        let size : length (take (data_size prefix) behind) ≡ data_size prefix = grind (arith, common_steps) in
        rw (data_there place prefix behind short.1 fits) (
          refl,
          short.1,
          size,
          (
            drop (data_size prefix) behind,
            ap (λ xs. prefix ∷ xs) (sym (take-append-drop (data_size prefix) behind)),
            rw size (then fits),
          ),
        )
  ]
]

cut : (n place : ℕ) (bytes : List ℕ) → n ≤ length bytes → AreItemsFrom (place + n) (drop n bytes) (items_from n place bytes)
cut zero place [] h = (sym (add-zero place), refl)
cut (suc n) place [] h = absurd (omega arith)
cut zero place (prefix ∷ behind) h =
    rw (add-zero place) (cut_one place prefix behind (items_from (data_size prefix) (place + 1) behind) (λ fits. cut (data_size prefix) (place + 1) behind fits))
cut (suc n) place (b ∷ bytes) h =
    let P : ℕ → Type 0 = λ p. AreItemsFrom p (drop n bytes) (items_from n (place + 1) bytes) in
    let here : place + 1 + n ≡ place + suc n = omega arith in
    subst P here (cut n (place + 1) bytes (omega arith))

-- Items that are cut well are those of the bytes.
cut_once : (place : ℕ) (bytes : List ℕ) (items : Items) → AreItemsFrom place bytes items → items ≡ items_from 0 place bytes
cut_once place bytes (Has at prefix content rest) (here, short, size, (behind, is, there)) =
    let fits : data_size prefix ≤ length (content ++ behind) = omega (arith, length-append {A = ℕ}) in
    let front : take (data_size prefix) (content ++ behind) ≡ content = rw (← size) (take-append_seam content behind) in
    let back : drop (data_size prefix) (content ++ behind) ≡ behind = rw (← size) (drop-append_seam content behind) in
    let read : data_at place prefix (content ++ behind) ≡ Ok content = data_there place prefix (content ++ behind) short fits ∙ ap Ok front in
    let tail : items_from (data_size prefix) (place + 1) (content ++ behind) ≡ items_from 0 (place + 1 + length content) behind =
    items_from-data (data_size prefix) (place + 1) (content ++ behind) fits ∙ rw (back, size) refl in
    let one : items_from 0 place (prefix ∷ (content ++ behind)) ≡ Has place prefix content (items_from 0 (place + 1 + length content) behind) =
    rw (read, tail) refl in
    let rest_is : rest ≡ items_from 0 (place + 1 + length content) behind = cut_once (place + 1 + length content) behind rest there in
    let whole : items_from 0 place bytes ≡ items_from 0 place (prefix ∷ (content ++ behind)) = ap (items_from 0 place) is in
    cc
cut_once place bytes (Ends at) (here, is) = rw (is, here) refl
cut_once place bytes (Stops (Truncated at)) (here, (prefix, behind, short, is, missing)) =
    let read : data_at place prefix behind ≡ Err (Truncated place) = data_cut_off place prefix behind short missing in
    let one : items_from 0 place (prefix ∷ behind) ≡ Stops (Truncated place) = rw read refl in
    let whole : items_from 0 place bytes ≡ items_from 0 place (prefix ∷ behind) = ap (items_from 0 place) is in
    cc
cut_once place bytes (Stops (Long at)) (here, (behind, is)) =
    let one : items_from 0 place (0xfe ∷ behind) ≡ Stops (Long place) = refl in
    let whole : items_from 0 place bytes ≡ items_from 0 place (0xfe ∷ behind) = ap (items_from 0 place) is in
    cc
cut_once place bytes (Stops (Stack at)) h = absurd h
cut_once place bytes (Stops (Nest at)) h = absurd h
cut_once place bytes (Stops (Ids at)) h = absurd h
cut_once place bytes (Stops (Size at)) h = absurd h

pub items_of-only_cut : (bytes : List ℕ) → IsOnlyCut bytes (items_of bytes)
items_of-only_cut bytes = record {
  is_cut = cut 0 0 bytes (omega arith);
  only = λ others h. cut_once 0 bytes others h;
}

-- The one word that is left is read as what it is the text of, and only so.
use Rattle.std.proofs.Common.{◌≡◌, ℕ, ◌≤◌, ◌<◌, ◌^◌, List, [], ◌∷◌, Bool, true, false, Option, Some, None, length, refl, ap, ◌∙◌, arith, cond, ◌⊎◌, inl, inr, leb, le-leb}
use Rattle.std.specs.Fmt.{decimal}
use Rattle.std.proofs.lemmas.Option.{cond_some}
use Rattle.std.proofs.lemmas.Bool.{leb-true}
use Rattle.usb_words.specs.Field.{HasBytes, hex, number_of, bytes_in, at_least, one, bytes_word, from, number_word}
use Rattle.usb_words.proofs.Hex.{hex_only, hex_again}
use Rattle.usb_words.proofs.Decimal.{number_only, number_again}

-- a test chose this value, or the others did
pub chosen : {A : Type 0} (test : Bool) (this value : A) (others : Option A) → cond test (Some this) others ≡ Some value
    → ((test ≡ true) × (this ≡ value)) ⊎ (others ≡ Some value)
chosen true this value others h = inl (refl, cc)
chosen false this value others h = inr h

pub some_again : (least : ℕ) (bytes : List ℕ) → least ≤ length bytes → at_least least (Some bytes) ≡ Some bytes
some_again least bytes h = rw (le-leb least (length bytes) h) refl

pub one_only : (words : List (List ℕ)) (word : List ℕ) → one words ≡ Some word → words ≡ word ∷ []
one_only [] word h = absurd (cc)
one_only (a ∷ []) word h = cc
one_only (a ∷ b ∷ bs) word h = absurd (cc)

at_least_only : (least : ℕ) (r : Option (List ℕ)) (bytes : List ℕ) → at_least least r ≡ Some bytes → (r ≡ Some bytes) × (least ≤ length bytes)
at_least_only least None bytes h = absurd (cc)
at_least_only least (Some bs) bytes h =
    let p = cond_some (leb least (length bs)) bs bytes h in
    (ap Some p.1, omega (arith, leb-true, p.0, ap length p.1))

pub bytes_only : (least most : ℕ) (word bytes : List ℕ) → at_least least (bytes_in most word) ≡ Some bytes → (word ≡ hex bytes) × HasBytes least most bytes
bytes_only least most word bytes h =
    let a = at_least_only least (bytes_in most word) bytes h in
    let b = hex_only most word bytes a.0 in
    (b.0, (a.1, b.2, b.1))

pub word_only : (least most : ℕ) (words : List (List ℕ)) (w : Option (List ℕ)) (bytes : List ℕ) → one words ≡ w → bytes_word least most w ≡ Some bytes
    → (words ≡ hex bytes ∷ []) × HasBytes least most bytes
word_only least most words None bytes e h = absurd (cc)
word_only least most words (Some word) bytes e h =
    let b = bytes_only least most word bytes h in
    (one_only words word e ∙ ap (λ w. w ∷ []) b.0, b.1)

pub from_only : (least : ℕ) (r : Option ℕ) (n : ℕ) → from least r ≡ Some n → (r ≡ Some n) × (least ≤ n)
from_only least None n h = absurd (cc)
from_only least (Some m) n h =
    let p = cond_some (leb least m) m n h in
    (ap Some p.1, omega (arith, leb-true, p.0, p.1))

pub number_word_only : (least most : ℕ) (words : List (List ℕ)) (w : Option (List ℕ)) (n : ℕ) → most < 2 ^ 64 → one words ≡ w → number_word least most w ≡ Some n
    → (words ≡ decimal n ∷ []) × (least ≤ n) × (n ≤ most)
number_word_only least most words None n small e h = absurd (cc)
number_word_only least most words (Some word) n small e h =
    let f = from_only least (number_of most word) n h in
    let b = number_only word n most small f.0 in
    (one_only words word e ∙ ap (λ w. w ∷ []) b.0, f.1, b.1)

-- the text of bytes or of a number is read as these
pub bytes_word_again : (least most : ℕ) (bytes : List ℕ) → HasBytes least most bytes → bytes_word least most (Some (hex bytes)) ≡ Some bytes
bytes_word_again least most bytes h = rw (hex_again most bytes h.2 h.1) (some_again least bytes h.0)

pub number_word_again : (least most n : ℕ) → least ≤ n → n ≤ most → most < 2 ^ 64 → number_word least most (Some (decimal n)) ≡ Some n
number_word_again least most n low high small = rw (number_again n most high small, le-leb least n low) refl

-- The text of a number is read as that number, and only so.
use Rattle.std.proofs.Common.{◌≡◌, ℕ, ◌+◌, ◌^◌, ◌<◌, ◌≤◌, List, [], ◌∷◌, length, get_or, Some, Bool, true, false, ◌&&◌, not, ltb, eqb, refl, ap, sym, ◌∙◌, arith, inl, inr, eq-eqb}
use Rattle.std.specs.List.{list_all}
use Rattle.std.specs.Char.{is_ascii_digit}
use Rattle.std.specs.Fmt.{decimal}
use Rattle.std.proofs.lemmas.Fmt.{digits_decimal, digits_value-decimal, decimal-digits_value, decimal_nonempty, decimal_digit, first_decimal}
use Rattle.std.proofs.lemmas.Str.Parse.{IsNumeralModel, numerals_by_fold}
use Rattle.std.proofs.lemmas.Bool.{cases_lt, lt-ltb, ltb-true, ltb-false, leb-true, le-leb}
use Rattle.std.proofs.lemmas.Option.{cond_some}
use Rattle.std.proofs.lemmas.Bool.Decides.{nat_tests}
use Rattle.std.proofs.Common.{rules}
use Rattle.usb_words.specs.Field.{is_numeral, read_on, number_of}
use Rattle.usb_words.proofs.Hex.{is_seen, is_word}

-- the words of this crate for digits and their value are those of the library
own : IsNumeralModel (λ ds. list_all is_ascii_digit ds ≡ true) (read_on 0)
own = numerals_by_fold _ (search rules) read_on (search rules)

above_eqb : {m : ℕ} → 48 < m → eqb m 48 ≡ false
above_eqb h = grind (arith, nat_tests)

and-false : (b : Bool) → (b && false) ≡ false
and-false true = refl
and-false false = refl

pub and_true : (a b : Bool) → (a && b) ≡ true → (a ≡ true) × (b ≡ true)
and_true true b h = (refl, h)
and_true false b h = absurd (cc)

all_three : (a b c : Bool) → a ≡ true → b ≡ true → c ≡ false → (a && (b && not c)) ≡ true
all_three a b c e f g = rw (e, f, g) refl

-- no zero leads, but for 0 itself
no_zero_leads : (n : ℕ) → n < 2 ^ 64 → (eqb (get_or (decimal n) 0 0) 48 && ltb 1 (length (decimal n))) ≡ false
no_zero_leads n h = elim (cases_lt 0 n) [
  | inl some ↦ let e : eqb (get_or (decimal n) 0 0) 48 ≡ false = above_eqb (first_decimal n some h) in rw e refl
  | inr none ↦ rw (decimal_digit n (omega arith)) (and-false (eqb (48 + n) 48))
]

pub numeral_again : (n : ℕ) → n < 2 ^ 64 → is_numeral (decimal n) ≡ true
numeral_again n h =
    all_three _ _ _ (digits_decimal own n h) (lt-ltb 0 (length (decimal n)) (decimal_nonempty n h)) (no_zero_leads n h)

pub value_again : (n : ℕ) → n < 2 ^ 64 → read_on 0 (decimal n) ≡ n
value_again n h = digits_value-decimal own n h

pub number_again : (n most : ℕ) → n ≤ most → most < 2 ^ 64 → number_of most (decimal n) ≡ Some n
number_again n most h fits =
    let small : n < 2 ^ 64 = omega arith in
    rw (numeral_again n small, digits_value-decimal own n small, le-leb n most h) refl

not_both : (a b : Bool) → not (a && b) ≡ true → a ≡ true → b ≡ false
not_both true true h e = absurd (cc)
not_both true false h e = refl
not_both false b h e = absurd (cc)

lead_alone : (word : List ℕ) → 0 < length word → not (eqb (get_or word 0 0) 48 && ltb 1 (length word)) ≡ true
    → get_or word 0 0 ≡ 48 → length word ≡ 1
lead_alone word some h zero_leads =
    let few : length word ≤ 1 = ltb-false 1 (length word) (not_both _ _ h (eq-eqb (get_or word 0 0) 48 zero_leads)) in
    omega arith

pub number_only : (word : List ℕ) (n most : ℕ) → most < 2 ^ 64 → number_of most word ≡ Some n → (word ≡ decimal n) × (n ≤ most)
number_only word n most fits h =
    let some = cond_some _ _ n h in
    let tests = and_true _ _ some.0 in
    let numeral = and_true _ _ tests.0 in
    let rest = and_true _ _ numeral.1 in
    let small : read_on 0 word ≤ most = leb-true _ _ tests.1 in
    let size : 0 < length word = ltb-true _ _ rest.0 in
    let same = decimal-digits_value own word numeral.0 size (lead_alone word size rest.1) (omega arith) in
    (sym same ∙ ap decimal some.1, omega (arith, some.1))

digit_is_seen : (c : ℕ) → is_ascii_digit c ≡ true → is_seen c ≡ true
digit_is_seen c h = grind (arith, nat_tests)

word_of_digits : (word : List ℕ) → list_all is_ascii_digit word ≡ true → is_word word ≡ true
word_of_digits [] h = refl
word_of_digits (c ∷ cs) h =
    let parts = and_true _ _ h in
    let here : is_seen c ≡ true = digit_is_seen c parts.0 in
    rw (here, word_of_digits cs parts.1) refl

pub decimal_is_word : (n : ℕ) → n < 2 ^ 64 → is_word (decimal n) ≡ true
decimal_is_word n h = word_of_digits (decimal n) (digits_decimal own n h)

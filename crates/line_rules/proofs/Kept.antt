-- The texts of numbers and bytes keep the rules of their fields.
use Rattle.std.proofs.Common.{◌≡◌, ℕ, ◌*◌, ◌/◌, ◌%◌, ◌^◌, ◌≤◌, ◌<◌, List, [], ◌∷◌, true, false, eqb, length, refl, arith, codes, le-leb}
use Rattle.std.specs.List.{list_all, flat_map}
use Rattle.std.specs.Str.{bytes_eq}
use Rattle.std.specs.Fmt.{decimal}
use Rattle.std.proofs.lemmas.Fmt.{decimal_nonempty}
use Rattle.std.proofs.lemmas.Bool.Decides.{nat_tests}
use Rattle.usb_words.specs.Field.{AreBytes, HasBytes, hex, hex_digit, hex_pair}
use Rattle.usb_words.proofs.Hex.{two_no_dash}
use Rattle.usb_words.proofs.Decimal.{numeral_again, value_again}
use Rattle.usb_words.proofs.Lengths.{length-pairs}
use Rattle.line_rules.specs.Rules.{is_empty, is_number, is_hex_digit, is_bytes}

some_is_no_empty : (word : List ℕ) → 0 < length word → is_empty word ≡ false
some_is_no_empty [] h = absurd (omega arith)
some_is_no_empty (b ∷ bs) h = refl

pub decimal_is_no_empty : (n : ℕ) → n < 2 ^ 64 → is_empty (decimal n) ≡ false
decimal_is_no_empty n h = some_is_no_empty (decimal n) (decimal_nonempty n h)

pub hex_is_no_empty : (bytes : List ℕ) → is_empty (hex bytes) ≡ false
hex_is_no_empty [] = refl
hex_is_no_empty (b ∷ bs) = refl

pub number_kept : (least most n : ℕ) → least ≤ n → n ≤ most → n < 2 ^ 64 → is_number least most (decimal n) ≡ true
number_kept least most n low high fits = rw (numeral_again n fits, value_again n fits, le-leb least n low, le-leb n most high) refl

digit_kept : (n : ℕ) → n < 16 → is_hex_digit (hex_digit n) ≡ true
digit_kept n h = grind (arith, nat_tests)

digits_kept : (bytes : List ℕ) → AreBytes bytes → list_all is_hex_digit (flat_map hex_pair bytes) ≡ true
digits_kept [] h = refl
digits_kept (b ∷ bs) h =
    let high : b / 16 < 16 = omega (arith, h.0) in
    let low : b % 16 < 16 = omega arith in
    rw (digit_kept (b / 16) high, digit_kept (b % 16) low, digits_kept bs h.1) refl

even_test : (n m : ℕ) → n ≡ 2 * m → eqb (n % 2) 0 ≡ true
even_test n m e = let r : n % 2 ≡ 0 = omega arith in rw r refl

half : (n m : ℕ) → n ≡ 2 * m → n / 2 ≡ m
half n m e = omega arith

zero_test : (n : ℕ) → n ≤ 0 → eqb n 0 ≡ true
zero_test n h = grind (arith, nat_tests)

pairs_kept : (least most : ℕ) (word : List ℕ) (m : ℕ) → length word ≡ 2 * m → bytes_eq word (codes "-") ≡ false → is_empty word ≡ false
    → list_all is_hex_digit word ≡ true → least ≤ m → m ≤ most → is_bytes least most word ≡ true
pairs_kept least most word m len dash some digits low high =
    rw (dash, some, digits, even_test (length word) m len, half (length word) m len, le-leb least m low, le-leb m most high) refl

pub bytes_kept : (least most : ℕ) (bytes : List ℕ) → HasBytes least most bytes → is_bytes least most (hex bytes) ≡ true
bytes_kept least most [] h = zero_test least h.0
bytes_kept least most (b ∷ bs) h =
    pairs_kept least most (hex (b ∷ bs)) (length (b ∷ bs)) (length-pairs (b ∷ bs))
    (two_no_dash (hex_digit (b / 16)) (hex_digit (b % 16)) (flat_map hex_pair bs)) refl (digits_kept (b ∷ bs) h.2) h.0 h.1

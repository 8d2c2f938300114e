-- Hexadecimal digits in the tables of the code.
use Rattle.std.proofs.Common.{◌≡◌, ℕ, ◌+◌, ◌*◌, ◌/◌, ◌%◌, ◌<◌, ◌≤◌, List, [], ◌∷◌, Option, Some, None, eqb, true, refl, ap, sym, arith, codes, slice_index}
use Rattle.std.proofs.lemmas.Bool.{agree_below_at, eqb-true}
use Rattle.usb_words.specs.Field.{digit_value, hex_digit}
use Rattle.usb_words.proofs.Hex.{digit_only}

-- the value of a digit, and 16 for what is none
abbrev pub code : Option ℕ → ℕ
code None = 16
code (Some value) = value

abbrev pub values : List ℕ
values = 16 ∷ 16 ∷ 16 ∷ 16 ∷ 16 ∷ 16 ∷ 16 ∷ 16 ∷ 16 ∷ 16 ∷ 16 ∷ 16 ∷ 16 ∷ 16 ∷ 16 ∷ 16 ∷ 16 ∷ 16 ∷ 16 ∷ 16 ∷ 16 ∷ 16 ∷ 16 ∷ 16 ∷ 16 ∷ 16 ∷ 16 ∷ 16 ∷ 16 ∷ 16 ∷ 16 ∷ 16 ∷ 16 ∷ 16 ∷ 16 ∷ 16 ∷ 16 ∷ 16 ∷ 16 ∷ 16 ∷ 16 ∷ 16 ∷ 16 ∷ 16 ∷ 16 ∷ 16 ∷ 16 ∷ 16 ∷ 0 ∷ 1 ∷ 2 ∷ 3 ∷ 4 ∷ 5 ∷ 6 ∷ 7 ∷ 8 ∷ 9 ∷ 16 ∷ 16 ∷ 16 ∷ 16 ∷ 16 ∷ 16 ∷ 16 ∷ 16 ∷ 16 ∷ 16 ∷ 16 ∷ 16 ∷ 16 ∷ 16 ∷ 16 ∷ 16 ∷ 16 ∷ 16 ∷ 16 ∷ 16 ∷ 16 ∷ 16 ∷ 16 ∷ 16 ∷ 16 ∷ 16 ∷ 16 ∷ 16 ∷ 16 ∷ 16 ∷ 16 ∷ 16 ∷ 16 ∷ 16 ∷ 16 ∷ 16 ∷ 16 ∷ 16 ∷ 16 ∷ 10 ∷ 11 ∷ 12 ∷ 13 ∷ 14 ∷ 15 ∷ 16 ∷ 16 ∷ 16 ∷ 16 ∷ 16 ∷ 16 ∷ 16 ∷ 16 ∷ 16 ∷ 16 ∷ 16 ∷ 16 ∷ 16 ∷ 16 ∷ 16 ∷ 16 ∷ 16 ∷ 16 ∷ 16 ∷ 16 ∷ 16 ∷ 16 ∷ 16 ∷ 16 ∷ 16 ∷ 16 ∷ 16 ∷ 16 ∷ 16 ∷ 16 ∷ 16 ∷ 16 ∷ 16 ∷ 16 ∷ 16 ∷ 16 ∷ 16 ∷ 16 ∷ 16 ∷ 16 ∷ 16 ∷ 16 ∷ 16 ∷ 16 ∷ 16 ∷ 16 ∷ 16 ∷ 16 ∷ 16 ∷ 16 ∷ 16 ∷ 16 ∷ 16 ∷ 16 ∷ 16 ∷ 16 ∷ 16 ∷ 16 ∷ 16 ∷ 16 ∷ 16 ∷ 16 ∷ 16 ∷ 16 ∷ 16 ∷ 16 ∷ 16 ∷ 16 ∷ 16 ∷ 16 ∷ 16 ∷ 16 ∷ 16 ∷ 16 ∷ 16 ∷ 16 ∷ 16 ∷ 16 ∷ 16 ∷ 16 ∷ 16 ∷ 16 ∷ 16 ∷ 16 ∷ 16 ∷ 16 ∷ 16 ∷ 16 ∷ 16 ∷ 16 ∷ 16 ∷ 16 ∷ 16 ∷ 16 ∷ 16 ∷ 16 ∷ 16 ∷ 16 ∷ 16 ∷ 16 ∷ 16 ∷ 16 ∷ 16 ∷ 16 ∷ 16 ∷ 16 ∷ 16 ∷ 16 ∷ 16 ∷ 16 ∷ 16 ∷ 16 ∷ 16 ∷ 16 ∷ 16 ∷ 16 ∷ 16 ∷ 16 ∷ 16 ∷ 16 ∷ 16 ∷ 16 ∷ 16 ∷ 16 ∷ 16 ∷ 16 ∷ 16 ∷ 16 ∷ 16 ∷ 16 ∷ 16 ∷ 16 ∷ 16 ∷ 16 ∷ 16 ∷ 16 ∷ 16 ∷ 16 ∷ 16 ∷ 16 ∷ 16 ∷ 16 ∷ 16 ∷ 16 ∷ 16 ∷ 16 ∷ 16 ∷ 16 ∷ 16 ∷ 16 ∷ 16 ∷ 16 ∷ 16 ∷ []

in_table : (c : ℕ) → c < 256 → code (digit_value c) ≡ slice_index values c
in_table c h = eqb-true _ _ (agree_below_at (λ n. eqb (code (digit_value n)) (slice_index values n)) (λ n. true) 256 c refl h)

some_of_code : (x : Option ℕ) (v : ℕ) → code x ≡ v → v < 16 → x ≡ Some v
some_of_code None v e h = absurd (omega arith)
some_of_code (Some w) v e h = ap Some e

none_of_code : (c : ℕ) (x : Option ℕ) (v : ℕ) → x ≡ digit_value c → code x ≡ v → 16 ≤ v → x ≡ None
none_of_code c None v same e h = refl
none_of_code c (Some w) v same e h = absurd (omega (arith, (digit_only c w (sym same)).1))

pub digit_in_table : (c : ℕ) → c < 256 → slice_index values c < 16 → digit_value c ≡ Some (slice_index values c)
digit_in_table c h small = some_of_code (digit_value c) _ (in_table c h) small

pub none_in_table : (c : ℕ) → c < 256 → 16 ≤ slice_index values c → digit_value c ≡ None
none_in_table c h large = none_of_code c (digit_value c) _ refl (in_table c h) large

abbrev pub pairs : List ℕ
pairs = codes "000102030405060708090a0b0c0d0e0f101112131415161718191a1b1c1d1e1f202122232425262728292a2b2c2d2e2f303132333435363738393a3b3c3d3e3f404142434445464748494a4b4c4d4e4f505152535455565758595a5b5c5d5e5f606162636465666768696a6b6c6d6e6f707172737475767778797a7b7c7d7e7f808182838485868788898a8b8c8d8e8f909192939495969798999a9b9c9d9e9fa0a1a2a3a4a5a6a7a8a9aaabacadaeafb0b1b2b3b4b5b6b7b8b9babbbcbdbebfc0c1c2c3c4c5c6c7c8c9cacbcccdcecfd0d1d2d3d4d5d6d7d8d9dadbdcdddedfe0e1e2e3e4e5e6e7e8e9eaebecedeeeff0f1f2f3f4f5f6f7f8f9fafbfcfdfeff"

-- both digits of a byte, by their place
pub high_in_table : (b : ℕ) → b < 256 → slice_index pairs (2 * b) ≡ hex_digit (b / 16)
high_in_table b h = eqb-true _ _ (agree_below_at (λ n. eqb (slice_index pairs (2 * n)) (hex_digit (n / 16))) (λ n. true) 256 b refl h)

pub low_in_table : (b : ℕ) → b < 256 → slice_index pairs (2 * b + 1) ≡ hex_digit (b % 16)
low_in_table b h = eqb-true _ _ (agree_below_at (λ n. eqb (slice_index pairs (2 * n + 1)) (hex_digit (n % 16))) (λ n. true) 256 b refl h)

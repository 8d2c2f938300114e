-- Hexadecimal text is read as the bytes that it was written for, and only so.
use Rattle.std.proofs.Common.{◌≡◌, ℕ, ◌+◌, ◌*◌, ◌/◌, ◌%◌, ◌<◌, ◌≤◌, List, [], ◌∷◌, length, Option, Some, None, Bool, true, false, ◌&&◌, cond, leb, ltb, refl, ap, sym, ◌∙◌, arith, codes, ◌⊎◌, inl, inr, subst, eqb, slice_index}
use Rattle.std.specs.List.{flat_map, list_all}
use Rattle.std.specs.Cmp.Lexicographic.{same_text}
use Rattle.std.specs.Str.{bytes_eq}
use Rattle.std.proofs.lemmas.Bool.{agree_below_at, leb-true}
use Rattle.std.proofs.lemmas.Option.{cond_some}
use Rattle.std.proofs.lemmas.Bool.Decides.{nat_tests}
use Rattle.usb_words.specs.Field.{AreBytes, hex_digit, hex_pair, hex, digit_value, both, pair_value, with_byte, bytes_of_pairs, at_most, bytes_in}

digit_again : (n : ℕ) → n < 16 → digit_value (hex_digit n) ≡ Some n
digit_again n h = grind (arith, nat_tests)

pub digit_only : (c n : ℕ) → digit_value c ≡ Some n → (c ≡ hex_digit n) × (n < 16)
digit_only c n h = grind (arith, nat_tests)

pair_again : (b : ℕ) → b < 256 → pair_value (hex_digit (b / 16)) (hex_digit (b % 16)) ≡ Some b
pair_again b h =
    let high : b / 16 < 16 = omega arith in
    let low : b % 16 < 16 = omega arith in
    let e : 16 * (b / 16) + b % 16 ≡ b = omega arith in
    rw (digit_again (b / 16) high, digit_again (b % 16) low) (ap Some e)

both_only : (c d b : ℕ) (x y : Option ℕ)
    → ((n : ℕ) → x ≡ Some n → (c ≡ hex_digit n) × (n < 16)) → ((n : ℕ) → y ≡ Some n → (d ≡ hex_digit n) × (n < 16))
    → both x y ≡ Some b → (c ≡ hex_digit (b / 16)) × (d ≡ hex_digit (b % 16)) × (b < 256)
both_only c d b None y f g h = absurd (cc)
both_only c d b (Some m) None f g h = absurd (cc)
both_only c d b (Some m) (Some n) f g h =
    let e : 16 * m + n ≡ b = cc in
    let p = f m refl in
    let q = g n refl in
    let high : m ≡ b / 16 = omega (arith, p.1, q.1) in
    let low : n ≡ b % 16 = omega (arith, p.1, q.1) in
    (p.0 ∙ ap hex_digit high, q.0 ∙ ap hex_digit low, omega (arith, p.1, q.1))

pair_only : (c d b : ℕ) → pair_value c d ≡ Some b → (c ≡ hex_digit (b / 16)) × (d ≡ hex_digit (b % 16)) × (b < 256)
pair_only c d b h = both_only c d b (digit_value c) (digit_value d) (digit_only c) (digit_only d) h

pairs_again : (bytes : List ℕ) → AreBytes bytes → bytes_of_pairs (flat_map hex_pair bytes) ≡ Some bytes
pairs_again [] h = refl
pairs_again (b ∷ bs) h = rw (pair_again b h.0, pairs_again bs h.1) refl

-- what the pairs in front give
with_byte_only : (x : Option ℕ) (r : Option (List ℕ)) (bytes : List ℕ) → with_byte x r ≡ Some bytes
    → (b : ℕ) × (bs : List ℕ) × (x ≡ Some b) × (r ≡ Some bs) × (b ∷ bs ≡ bytes)
with_byte_only None r bytes h = absurd (cc)
with_byte_only (Some b) None bytes h = absurd (cc)
with_byte_only (Some b) (Some bs) bytes h = (b, bs, refl, refl, cc)

cons_two : (c d c' d' : ℕ) (cs cs' : List ℕ) → c ≡ c' → d ≡ d' → cs ≡ cs' → c ∷ d ∷ cs ≡ c' ∷ d' ∷ cs'
cons_two c d c' d' cs cs' e f g = cc

pairs_only : (word bytes : List ℕ) → bytes_of_pairs word ≡ Some bytes → (word ≡ flat_map hex_pair bytes) × AreBytes bytes
pairs_only [] bytes h = let e : [] ≡ bytes = cc in subst (λ (z : List ℕ). ([] ≡ flat_map hex_pair z) × AreBytes z) e (refl, tt)
pairs_only (c ∷ []) bytes h = absurd (cc)
pairs_only (c ∷ d ∷ cs) bytes h =
    let w = with_byte_only (pair_value c d) (bytes_of_pairs cs) bytes h in
    let p = pair_only c d w.0 w.2 in
    let q = pairs_only cs w.1 w.3 in
    subst (λ (z : List ℕ). (c ∷ d ∷ cs ≡ flat_map hex_pair z) × AreBytes z) w.4 (cons_two c d _ _ cs _ p.0 p.1 q.0, (p.2, q.1))

pub two_no_dash : (c d : ℕ) (cs : List ℕ) → bytes_eq (c ∷ d ∷ cs) (codes "-") ≡ false
two_no_dash c d cs = elim (eqb c 45) as (λ b. (b && false) ≡ false) [ true ↦ refl | false ↦ refl ]

at_most_some : (n : ℕ) (bytes : List ℕ) → length bytes ≤ n → at_most n (Some bytes) ≡ Some bytes
at_most_some n bytes h = grind (arith, nat_tests)

-- the text of bytes is read as those bytes
pub hex_again : (n : ℕ) (bytes : List ℕ) → AreBytes bytes → length bytes ≤ n → bytes_in n (hex bytes) ≡ Some bytes
hex_again n [] h few = refl
hex_again n (b ∷ bs) h few =
    rw (two_no_dash (hex_digit (b / 16)) (hex_digit (b % 16)) (flat_map hex_pair bs), pairs_again (b ∷ bs) h) (at_most_some n (b ∷ bs) few)

at_most_only : (n : ℕ) (r : Option (List ℕ)) (bytes : List ℕ) → at_most n r ≡ Some bytes → (r ≡ Some bytes) × (length bytes ≤ n)
at_most_only n None bytes h = absurd (cc)
at_most_only n (Some bs) bytes h =
    let p = cond_some (leb (length bs) n) bs bytes h in
    (ap Some p.1, omega (arith, leb-true, p.0, ap length p.1))

-- and only the text of bytes is
dash_or_pairs : (t : Bool) (n : ℕ) (word bytes : List ℕ) (r : Option (List ℕ)) → (t ≡ true → word ≡ codes "-")
    → (cond t (Some []) r) ≡ Some bytes → ((word ≡ codes "-") × ([] ≡ bytes)) ⊎ (r ≡ Some bytes)
dash_or_pairs true n word bytes r dash h = inl (dash refl, cc)
dash_or_pairs false n word bytes r dash h = inr h

hex_nonempty : (word bytes : List ℕ) → 0 < length word → word ≡ flat_map hex_pair bytes → word ≡ hex bytes
hex_nonempty word [] some e = absurd (omega (arith, ap length e))
hex_nonempty word (b ∷ bs) some e = e

pub hex_only : (n : ℕ) (word bytes : List ℕ) → bytes_in n word ≡ Some bytes → (word ≡ hex bytes) × AreBytes bytes × (length bytes ≤ n)
hex_only n [] bytes h = absurd (cc)
hex_only n (c ∷ cs) bytes h =
    elim (dash_or_pairs (bytes_eq (c ∷ cs) (codes "-")) n (c ∷ cs) bytes (at_most n (bytes_of_pairs (c ∷ cs))) (λ e. same_text (c ∷ cs) (codes "-") (sym e)) h) [
      | inl d ↦ subst (λ (z : List ℕ). (c ∷ cs ≡ hex z) × AreBytes z × (length z ≤ n)) d.1 (d.0, tt, omega arith)
      | inr e ↦
          let m = at_most_only n (bytes_of_pairs (c ∷ cs)) bytes e in
          let p = pairs_only (c ∷ cs) bytes m.0 in
          (hex_nonempty (c ∷ cs) bytes (omega arith) p.0, p.1, m.1)
    ]

-- it is seen: printable, and no space
abbrev pub is_seen : ℕ → Bool
is_seen b = ltb 32 b && leb b 126

abbrev pub is_word : List ℕ → Bool
is_word bytes = list_all is_seen bytes

digit_is_seen : (n : ℕ) → n < 16 → is_seen (hex_digit n) ≡ true
digit_is_seen n h = grind (arith, nat_tests)

pairs_are_word : (bytes : List ℕ) → AreBytes bytes → is_word (flat_map hex_pair bytes) ≡ true
pairs_are_word [] h = refl
pairs_are_word (b ∷ bs) h =
    let high : b / 16 < 16 = omega (arith, h.0) in
    let low : b % 16 < 16 = omega arith in
    rw (digit_is_seen (b / 16) high, digit_is_seen (b % 16) low, pairs_are_word bs h.1) refl

pub hex_is_word : (bytes : List ℕ) → AreBytes bytes → is_word (hex bytes) ≡ true
hex_is_word [] h = refl
hex_is_word (b ∷ bs) h = pairs_are_word (b ∷ bs) h

-- the digits as a table
pub digit_in_table : (n : ℕ) → n < 16 → slice_index (codes "0123456789abcdef") n ≡ hex_digit n
digit_in_table n h =
    let same : eqb (slice_index (codes "0123456789abcdef") n) (hex_digit n) ≡ true =
    agree_below_at (λ n. eqb (slice_index (codes "0123456789abcdef") n) (hex_digit n)) (λ n. true) 16 n refl h in
    grind (arith, nat_tests, same)

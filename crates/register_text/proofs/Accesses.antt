-- A register line has digits, and tells its access and its side.
use Rattle.std.proofs.Common.{◌≡◌, ℕ, zero, suc, ◌^◌, ◌/◌, ◌%◌, ◌<◌, List, [], ◌∷◌, ◌++◌, Bool, true, false, cond, length, Option, Some, None, refl, ap, sym, ◌∙◌, arith, codes, length-append}
use Rattle.std.specs.List.{list_all}
use Rattle.std.specs.Str.{bytes_eq}
use Rattle.std.specs.Int.{w16, w32, to_be_bytes}
use Rattle.std.proofs.lemmas.List.Folds.{list_all-append}
use Rattle.std.proofs.lemmas.Bool.Decides.{nat_tests}
use Rattle.dwc2_regs.specs.declared.access.Access.{Access}
use Rattle.usb_words.specs.Field.{pieces, hex_digit, hex}
use Rattle.usb_words.proofs.Hex.{is_seen, is_word}
use Rattle.usb_words.proofs.Spaced.{pieces-spaced}
use Rattle.register_text.specs.declared.access.Side.{Side}
use Rattle.register_text.specs.declared.access.Side.TheVariants as side
use Rattle.register_text.specs.Access.{digits, mark, access_words, access_text, IsAccess}

-- the bytes of a number, the highest first, have its digits
pub four_digits : (n : ℕ) → hex (to_be_bytes w16 n) ≡ digits 4 n
four_digits n =
    let a : n / 256 % 256 / 16 ≡ n / 16 / 16 / 16 % 16 = omega arith in
    let b : n / 256 % 256 % 16 ≡ n / 16 / 16 % 16 = omega arith in
    let c : n % 256 / 16 ≡ n / 16 % 16 = omega arith in
    let d : n % 256 % 16 ≡ n % 16 = omega arith in
    rw (a, b, c, d) refl

pub eight_digits : (n : ℕ) → hex (to_be_bytes w32 n) ≡ digits 8 n
eight_digits n =
    let a : n / 16777216 % 256 / 16 ≡ n / 16 / 16 / 16 / 16 / 16 / 16 / 16 % 16 = omega arith in
    let b : n / 16777216 % 256 % 16 ≡ n / 16 / 16 / 16 / 16 / 16 / 16 % 16 = omega arith in
    let c : n / 65536 % 256 / 16 ≡ n / 16 / 16 / 16 / 16 / 16 % 16 = omega arith in
    let d : n / 65536 % 256 % 16 ≡ n / 16 / 16 / 16 / 16 % 16 = omega arith in
    let e : n / 256 % 256 / 16 ≡ n / 16 / 16 / 16 % 16 = omega arith in
    let f : n / 256 % 256 % 16 ≡ n / 16 / 16 % 16 = omega arith in
    let g : n % 256 / 16 ≡ n / 16 % 16 = omega arith in
    let h : n % 256 % 16 ≡ n % 16 = omega arith in
    rw (a, b, c, d, e, f, g, h) refl

-- the digits of an offset and of a word, from their bytes
pub digits_told : (off value : ℕ) → 32 ∷ (hex (to_be_bytes w16 off) ++ 32 ∷ hex (to_be_bytes w32 value)) ≡ 32 ∷ (digits 4 off ++ 32 ∷ digits 8 value)
digits_told off value =
    ap (λ t. 32 ∷ (t ++ 32 ∷ hex (to_be_bytes w32 value))) (four_digits off) ∙ ap (λ t. 32 ∷ (digits 4 off ++ 32 ∷ t)) (eight_digits value)

digit_is_seen : (n : ℕ) → n < 16 → is_seen (hex_digit n) ≡ true
digit_is_seen n h = grind (arith, nat_tests)

digits_are_word : (count n : ℕ) → is_word (digits count n) ≡ true
digits_are_word zero n = refl
digits_are_word (suc count) n =
    let small : n % 16 < 16 = omega arith in
    rw (list_all-append is_seen (digits count (n / 16)) (hex_digit (n % 16) ∷ []), digits_are_word count (n / 16), digit_is_seen (n % 16) small) refl

mark_is_word : (s : Side) (write : Bool) → is_word (mark s write) ≡ true
mark_is_word side.Plain false = refl
mark_is_word side.Plain true = refl
mark_is_word side.Device false = refl
mark_is_word side.Device true = refl
mark_is_word side.Host false = refl
mark_is_word side.Host true = refl

fields_are_words : (a : Access) → list_all is_word (digits 4 a.off ∷ digits 8 a.value ∷ []) ≡ true
fields_are_words a = rw (digits_are_word 4 a.off, digits_are_word 8 a.value) refl

pub access_words_are_words : (a : Access) (s : Side) → list_all is_word (access_words a s) ≡ true
access_words_are_words a s = rw (mark_is_word s a.write, digits_are_word 4 a.off, digits_are_word 8 a.value) refl

-- a digit tells its value
same_digit : (m n : ℕ) → m < 16 → n < 16 → hex_digit m ≡ hex_digit n → m ≡ n
same_digit m n h k e = grind (arith, nat_tests)

-- what stands before a last digit, and that digit
same_end : (xs ys : List ℕ) (x y : ℕ) → xs ++ x ∷ [] ≡ ys ++ y ∷ [] → (xs ≡ ys) × (x ≡ y)
same_end [] [] x y e = (refl, cc)
same_end [] (b ∷ ys) x y e = absurd (omega (arith, ap length e, length-append ys (y ∷ [])))
same_end (a ∷ xs) [] x y e = absurd (omega (arith, ap length e, length-append xs (x ∷ [])))
same_end (a ∷ xs) (b ∷ ys) x y e =
    let first : a ≡ b = cc in
    let rest : xs ++ x ∷ [] ≡ ys ++ y ∷ [] = cc in
    let same = same_end xs ys x y rest in
    let front = same.0 in
    (cc, same.1)

-- so many digits tell a number that has no more
same_number : (count m n : ℕ) → m < 16 ^ count → n < 16 ^ count → digits count m ≡ digits count n → m ≡ n
same_number zero m n h k e = omega arith
same_number (suc count) m n h k e =
    let ends = same_end (digits count (m / 16)) (digits count (n / 16)) (hex_digit (m % 16)) (hex_digit (n % 16)) e in
    let low : m % 16 ≡ n % 16 = same_digit (m % 16) (n % 16) (omega arith) (omega arith) ends.1 in
    let high : m / 16 ≡ n / 16 = same_number count (m / 16) (n / 16) (omega arith) (omega arith) ends.0 in
    omega (arith, low, high)

-- a mark tells its side and whether the access wrote
abbrev mark_of : List ℕ → Option (Side × Bool)
mark_of word =
    cond (bytes_eq word (codes "r")) (Some (side.Plain, false)) (
    cond (bytes_eq word (codes "w")) (Some (side.Plain, true)) (
    cond (bytes_eq word (codes "dr")) (Some (side.Device, false)) (
    cond (bytes_eq word (codes "dw")) (Some (side.Device, true)) (
    cond (bytes_eq word (codes "hr")) (Some (side.Host, false)) (
    cond (bytes_eq word (codes "hw")) (Some (side.Host, true)) None)))))

mark_again : (s : Side) (write : Bool) → mark_of (mark s write) ≡ Some (s, write)
mark_again side.Plain false = refl
mark_again side.Plain true = refl
mark_again side.Device false = refl
mark_again side.Device true = refl
mark_again side.Host false = refl
mark_again side.Host true = refl

same_pair : (s t : Side) (v w : Bool) → ◌≡◌ {A = Option (Side × Bool)} (Some (s, v)) (Some (t, w)) → (s ≡ t) × (v ≡ w)
same_pair s t v w e =
    let pair : ◌≡◌ {A = Side × Bool} (s, v) (t, w) = cc in
    (ap (λ (p : Side × Bool). p.0) pair, ap (λ (p : Side × Bool). p.1) pair)

same_mark : (s t : Side) (v w : Bool) → mark s v ≡ mark t w → (s ≡ t) × (v ≡ w)
same_mark s t v w e = same_pair s t v w (sym (mark_again s v) ∙ ap mark_of e ∙ mark_again t w)

same_three : (a b c a' b' c' : List ℕ) → a ∷ b ∷ c ∷ [] ≡ a' ∷ b' ∷ c' ∷ [] → (a ≡ a') × (b ≡ b') × (c ≡ c')
same_three a b c a' b' c' e = (cc, cc, cc)

same_words : (a b : Access) (s t : Side) → access_text a s ≡ access_text b t → access_words a s ≡ access_words b t
same_words a b s t e =
    sym (pieces-spaced (mark s a.write) (digits 4 a.off ∷ digits 8 a.value ∷ []) (mark_is_word s a.write) (fields_are_words a))
    ∙ ap pieces e
    ∙ pieces-spaced (mark t b.write) (digits 4 b.off ∷ digits 8 b.value ∷ []) (mark_is_word t b.write) (fields_are_words b)

same_access : (a b : Access) → a.write ≡ b.write → a.off ≡ b.off → a.value ≡ b.value → a ≡ b
same_access a b e f g = λ i. record { write = e i; off = f i; value = g i }

-- one text is that of one access on one side
pub access_told : (a b : Access) (s t : Side) → IsAccess a → IsAccess b → access_text a s ≡ access_text b t → (a ≡ b) × (s ≡ t)
access_told a b s t ha hb e =
    let words = same_three _ _ _ _ _ _ (same_words a b s t e) in
    let marks = same_mark s t a.write b.write words.0 in
    let off = same_number 4 a.off b.off (omega (arith, ha.0)) (omega (arith, hb.0)) words.1 in
    let value = same_number 8 a.value b.value (omega (arith, ha.1)) (omega (arith, hb.1)) words.2 in
    (same_access a b marks.1 off value, marks.0)

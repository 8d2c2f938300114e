-- Pairs of hexadecimal digits, read from the front.
use Rattle.std.proofs.Common.{◌-◌, take, take_all, length-take-le, length-drop, sym, slice_index, ◌≡◌, ℕ, ◌*◌, ◌/◌, ◌%◌, ◌<◌, ◌≤◌, List, [], ◌∷◌, ◌++◌, length, drop, Option, Some, None, false, refl, ap, ◌∙◌, append_assoc, codes, arith}
use Rattle.std.specs.Str.{bytes_eq}
use Rattle.std.proofs.lemmas.Bool.Decides.{nat_tests}
use Rattle.usb_words.specs.Field.{pair_value, with_byte, bytes_of_pairs, at_most, bytes_in}

with_byte-none : (x : Option ℕ) → with_byte x None ≡ None
with_byte-none None = refl
with_byte-none (Some b) = refl

-- an odd number of digits is no bytes
pub odd_digits : (word : List ℕ) → length word % 2 ≡ 1 → bytes_of_pairs word ≡ None
odd_digits [] h = absurd (omega (arith, h))
odd_digits (c ∷ []) h = refl
odd_digits (c ∷ d ∷ cs) h = ap (with_byte (pair_value c d)) (odd_digits cs (omega arith)) ∙ with_byte-none (pair_value c d)

-- bytes that were read, in front of those that are left
abbrev pub after_bytes : List ℕ → Option (List ℕ) → Option (List ℕ)
after_bytes read None = None
after_bytes read (Some bytes) = Some (read ++ bytes)

pub after_more : (read : List ℕ) (byte : ℕ) (rest : Option (List ℕ)) → after_bytes (read ++ byte ∷ []) rest ≡ after_bytes read (with_byte (Some byte) rest)
after_more read byte None = refl
after_more read byte (Some bytes) = ap Some (append_assoc read (byte ∷ []) bytes)

-- two digits make a byte
pairs_half : (c d : ℕ) (cs : List ℕ) (x : Option ℕ) (r : Option (List ℕ)) (bytes : List ℕ)
    → ((rest : List ℕ) → r ≡ Some rest → 2 * length rest ≡ length cs)
    → with_byte x r ≡ Some bytes → 2 * length bytes ≡ length (c ∷ d ∷ cs)
pairs_half c d cs None r bytes ih h = absurd (cc)
pairs_half c d cs (Some b) None bytes ih h = absurd (cc)
pairs_half c d cs (Some b) (Some rest) bytes ih h =
    let e : b ∷ rest ≡ bytes = cc in
    omega (arith, ih rest refl, ap length e)

pairs_length : (word bytes : List ℕ) → bytes_of_pairs word ≡ Some bytes → 2 * length bytes ≡ length word
pairs_length [] bytes h = let e : [] ≡ bytes = cc in omega (arith, ap length e)
pairs_length (c ∷ []) bytes h = absurd (cc)
pairs_length (c ∷ d ∷ cs) bytes h = pairs_half c d cs (pair_value c d) (bytes_of_pairs cs) bytes (pairs_length cs) h

at_most_fits : (n len : ℕ) (r : Option (List ℕ)) → ((bytes : List ℕ) → r ≡ Some bytes → 2 * length bytes ≡ len) → len / 2 ≤ n → at_most n r ≡ r
at_most_fits n len None half h = refl
at_most_fits n len (Some bytes) half h = let few : length bytes ≤ n = omega (arith, half bytes refl) in grind (arith, nat_tests)

few_pairs : (word : List ℕ) (n : ℕ) → length word / 2 ≤ n → at_most n (bytes_of_pairs word) ≡ bytes_of_pairs word
few_pairs word n h = at_most_fits n (length word) (bytes_of_pairs word) (pairs_length word) h

at_most_passes : (n len : ℕ) (r : Option (List ℕ)) → ((bytes : List ℕ) → r ≡ Some bytes → 2 * length bytes ≡ len) → n < len / 2 → at_most n r ≡ None
at_most_passes n len None half h = refl
at_most_passes n len (Some bytes) half h = let many : n < length bytes = omega (arith, half bytes refl) in grind (arith, nat_tests)

many_pairs : (word : List ℕ) (n : ℕ) → n < length word / 2 → at_most n (bytes_of_pairs word) ≡ None
many_pairs word n h = at_most_passes n (length word) (bytes_of_pairs word) (pairs_length word) h

-- a word that isn't a dash is read as pairs
paired : (n : ℕ) (word : List ℕ) → bytes_eq word (codes "-") ≡ false → 0 < length word → bytes_in n word ≡ at_most n (bytes_of_pairs word)
paired n [] other some = absurd (omega arith)
paired n (c ∷ cs) other some = rw other refl

pub long_word : (n : ℕ) (word : List ℕ) → bytes_eq word (codes "-") ≡ false → 0 < length word → n < length word / 2 → bytes_in n word ≡ None
long_word n word other some h = paired n word other some ∙ many_pairs word n h

pub short_word : (n : ℕ) (word : List ℕ) → bytes_eq word (codes "-") ≡ false → 0 < length word → length word / 2 ≤ n → bytes_in n word ≡ bytes_of_pairs word
short_word n word other some h = paired n word other some ∙ few_pairs word n h

-- the first pair, and the digits after it
pub first_pair : (word : List ℕ) → 2 ≤ length word
    → bytes_of_pairs word ≡ with_byte (pair_value (slice_index word 0) (slice_index word 1)) (bytes_of_pairs (take (length word - 2) (drop 2 word)))
first_pair [] h = absurd (omega arith)
first_pair (c ∷ []) h = absurd (omega arith)
first_pair (c ∷ d ∷ cs) h =
    let few : length cs ≤ length (c ∷ d ∷ cs) - 2 = omega arith in
    ap (λ (xs : List ℕ). with_byte (pair_value c d) (bytes_of_pairs xs)) (sym (take_all (length (c ∷ d ∷ cs) - 2) cs few))

pub length-others : (word : List ℕ) → length (take (length word - 2) (drop 2 word)) ≡ length word - 2
length-others word = length-take-le (length word - 2) (drop 2 word) (omega (arith, length-drop 2 word)) ∙ omega arith

-- How long texts are.
use Rattle.std.proofs.Common.{◌≡◌, ℕ, ◌+◌, ◌*◌, ◌≤◌, ◌<◌, List, [], ◌∷◌, length, refl, ◌∙◌, arith, length-append}
use Rattle.std.specs.List.{flat_map}
use Rattle.std.specs.Fmt.{decimal}
use Rattle.std.proofs.lemmas.Fmt.{length-decimal-le}
use Rattle.usb_words.specs.Field.{space, spaced, hex, hex_pair}

pub length-pairs : (bytes : List ℕ) → length (flat_map hex_pair bytes) ≡ 2 * length bytes
length-pairs [] = refl
length-pairs (b ∷ bs) = omega (arith, length-pairs bs)

pub length-hex : (bytes : List ℕ) → length (hex bytes) ≤ 2 * length bytes + 1
length-hex [] = omega arith
length-hex (b ∷ bs) = omega (arith, length-pairs (b ∷ bs))

pub length-number : (n most : ℕ) → n ≤ most → most < 1000 → length (decimal n) ≤ 3
length-number n most h few = length-decimal-le 3 n (omega arith) (omega arith) (omega arith)

pub length-wide : (n most : ℕ) → n ≤ most → most < 100000 → length (decimal n) ≤ 5
length-wide n most h few = length-decimal-le 5 n (omega arith) (omega arith) (omega arith)

pub length-two : (a b : List ℕ) → length (spaced (a ∷ b ∷ [])) ≡ length a + (1 + length b)
length-two a b = length-append a (space ∷ b) ∙ omega arith

pub length-three : (a b c : List ℕ) → length (spaced (a ∷ b ∷ c ∷ [])) ≡ length a + (1 + (length b + (1 + length c)))
length-three a b c = length-append a _ ∙ omega (arith, length-append b (space ∷ c))

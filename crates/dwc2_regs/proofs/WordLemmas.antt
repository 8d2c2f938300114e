-- Up to four bytes and the word that they make.
use Rattle.std.proofs.Common.{◌≡◌, ℕ, zero, suc, ◌+◌, ◌*◌, ◌/◌, ◌%◌, ◌<◌, ◌≤◌, List, [], ◌∷◌, ◌++◌, length, get_or, take, drop, refl, ap, arith}
use Rattle.std.proofs.Math.Nat.{div-div-eq-div-mul}
use Rattle.dwc2_regs.specs.Word.{word_of, bytes_of}

-- the bytes of a word are those that it was made of
pub bytes_of-word_of : (bytes : List ℕ) → ((i : ℕ) → get_or bytes i 0 < 256)
    → bytes_of (length bytes) (word_of bytes) ≡ bytes
bytes_of-word_of [] h = refl
bytes_of-word_of (byte ∷ bytes) h =
    let is_byte : byte < 256 = h 0 in
    let first : (byte + 256 * word_of bytes) % 256 ≡ byte = omega arith in
    let others : (byte + 256 * word_of bytes) / 256 ≡ word_of bytes = omega arith in
    let rest : bytes_of (length bytes) (word_of bytes) ≡ bytes = bytes_of-word_of bytes (λ i. h (suc i)) in
    rw (first, others, rest) refl

-- fewer bytes of a word are the first of more
pub take-bytes_of : (n m word : ℕ) → n ≤ m → take n (bytes_of m word) ≡ bytes_of n word
take-bytes_of zero m word h = refl
take-bytes_of (suc n) zero word h = absurd (omega arith)
take-bytes_of (suc n) (suc m) word h =
    ap (λ xs. word % 256 ∷ xs) (take-bytes_of n m (word / 256) (omega arith))

-- the four bytes of a word, each by its place
pub four_bytes : (word : ℕ)
    → word % 256 ∷ word / 256 % 256 ∷ word / 65536 % 256 ∷ word / 16777216 % 256 ∷ [] ≡ bytes_of 4 word
four_bytes word = rw (div-div-eq-div-mul word 256 256, div-div-eq-div-mul word 65536 256) refl

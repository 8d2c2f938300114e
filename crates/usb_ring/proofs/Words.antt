-- The bytes of a word of four, as std writes and reads them, against the same as recursions on lists.
use Rattle.std.proofs.Common.{◌≡◌, ℕ, zero, suc, ◌+◌, ◌*◌, ◌/◌, ◌%◌, ◌<◌, ◌≤◌, List, [], ◌∷◌, length, take, refl, arith}
use Rattle.std.specs.Prelude.{All}
use Rattle.std.specs.Int.{w32, to_le_bytes}
use Rattle.std.proofs.lemmas.List.Elements.{All-head, All-tail}
use Rattle.std.proofs.Math.Nat.{div-div-eq-div-mul}
use Rattle.usb_ring.specs.Ring.{low_bytes, number_of}

pub take-to_le_bytes : (n word : ℕ) → n ≤ 4 → take n (to_le_bytes w32 word) ≡ low_bytes n word
take-to_le_bytes zero word few = refl
take-to_le_bytes (suc zero) word few = refl
take-to_le_bytes (suc (suc zero)) word few = refl
take-to_le_bytes (suc (suc (suc zero))) word few = rw (div-div-eq-div-mul word 256 256) refl
take-to_le_bytes (suc (suc (suc (suc zero)))) word few = rw (div-div-eq-div-mul word 256 256, div-div-eq-div-mul word 65536 256) refl
take-to_le_bytes (suc (suc (suc (suc (suc n))))) word few = absurd (omega arith)

pub low_bytes-number_of : (bytes : List ℕ) → All (λ byte. byte < 256) bytes → low_bytes (length bytes) (number_of bytes) ≡ bytes
low_bytes-number_of [] small = refl
low_bytes-number_of (byte ∷ rest) small =
    let byte_small : byte < 256 = All-head (λ b. b < 256) byte rest small in
    let low : (byte + 256 * number_of rest) % 256 ≡ byte = omega arith in
    let high : (byte + 256 * number_of rest) / 256 ≡ number_of rest = omega arith in
    rw (low, high, low_bytes-number_of rest (All-tail (λ b. b < 256) byte rest small)) refl

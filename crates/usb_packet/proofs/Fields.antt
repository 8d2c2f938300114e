-- The fields of eight bytes are those of no other eight.
use Rattle.std.proofs.Common.{◌≡◌, ℕ, ◌+◌, ◌*◌, ◌/◌, ◌%◌, ◌<◌, List, [], ◌∷◌, length, get_or, refl, arith}
use Rattle.usb_packet.specs.Setup.{fields_of, bytes_of}

low : (n m : ℕ) → n < 256 → (n + 256 * m) % 256 ≡ n
low n m h = grind arith

high : (n m : ℕ) → n < 256 → (n + 256 * m) / 256 ≡ m
high n m h = grind arith

pub bytes_again : (bytes : List ℕ) → length bytes ≡ 8 → ((i : ℕ) → get_or bytes i 0 < 256) → bytes_of (fields_of bytes) ≡ bytes
bytes_again (a ∷ b ∷ c ∷ d ∷ e ∷ f ∷ g ∷ h ∷ []) eight fit =
    rw (low c d (fit 2), high c d (fit 2), low e f (fit 4), high e f (fit 4), low g h (fit 6), high g h (fit 6)) refl
bytes_again _ eight fit = absurd (omega arith)

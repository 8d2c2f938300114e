-- The line coding of a serial port: CDC PSTN 1.2, 6.3.10, 6.3.11 and table 17.
use Rattle.std.specs.Prelude.{ℕ, ◌+◌, ◌*◌, ◌/◌, ◌%◌, List, [], ◌∷◌, Bool, ◌==◌, ◌&&◌, ◌||◌, nat_le, length, slice_index}

pub record Coding : Type 0 where
  -- dwDTERate: bits in a second
  pub rate : ℕ
  -- bCharFormat: 0 is one stop bit, 1 one and a half, 2 two
  pub stop : ℕ
  -- bParityType: 0 none, 1 odd, 2 even, 3 mark, 4 space
  pub parity : ℕ
  -- bDataBits
  pub bits : ℕ

-- 115,200 bits in a second, one stop bit, no parity, 8 data bits
abbrev pub first_coding : Coding
first_coding = record { rate = 115200; stop = 0; parity = 0; bits = 8 }

-- how many bytes it has
abbrev pub coding_size : ℕ
coding_size = 7

-- a number in four bytes, the lowest first
abbrev pub four_bytes : ℕ → List ℕ
four_bytes n = n % 256 ∷ (n / 256) % 256 ∷ (n / 65536) % 256 ∷ (n / 16777216) % 256 ∷ []

abbrev pub coding_bytes : Coding → List ℕ
coding_bytes c = c.rate % 256 ∷ (c.rate / 256) % 256 ∷ (c.rate / 65536) % 256 ∷ (c.rate / 16777216) % 256 ∷ c.stop ∷ c.parity ∷ c.bits ∷ []

abbrev pub coding_of : List ℕ → Coding
coding_of bytes = record {
  rate = slice_index bytes 0 + 256 * slice_index bytes 1 + 65536 * slice_index bytes 2 + 16777216 * slice_index bytes 3;
  stop = slice_index bytes 4;
  parity = slice_index bytes 5;
  bits = slice_index bytes 6;
}

abbrev pub is_bits : ℕ → Bool
is_bits n = (n == 5) || ((n == 6) || ((n == 7) || ((n == 8) || (n == 16))))

-- a coding as the table has it
abbrev pub is_coding : Coding → Bool
is_coding c = nat_le c.stop 2 && (nat_le c.parity 4 && is_bits c.bits)

-- bytes that are one
abbrev pub are_coding : List ℕ → Bool
are_coding bytes = (length bytes == coding_size) && is_coding (coding_of bytes)

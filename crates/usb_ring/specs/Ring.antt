-- What a ring is to its callers: the bytes that it holds, and how many it has room for.
use Rattle.std.specs.Prelude.{ℕ, zero, suc, ◌+◌, ◌-◌, ◌*◌, ◌/◌, ◌%◌, List, [], ◌∷◌, ◌++◌, length, take, drop}

pub record Ring : Type 0 where
  -- the bytes held, the oldest first
  pub bytes : List ℕ
  -- the greatest number of bytes that it holds
  pub capacity : ℕ

-- how many more bytes it has room for
abbrev pub room : Ring → ℕ
room ring = ring.capacity - length ring.bytes

-- the ring with these bytes behind the ones that it holds
abbrev pub appended : Ring → List ℕ → Ring
appended ring new = record ring { bytes = ring.bytes ++ new }

-- the ring without its n oldest bytes
abbrev pub without_first : Ring → ℕ → Ring
without_first ring n = record ring { bytes = drop n ring.bytes }

-- the n lowest bytes of a word, the lowest first
abbrev pub low_bytes : ℕ → ℕ → List ℕ
low_bytes zero word = []
low_bytes (suc n) word = (word % 256) ∷ low_bytes n (word / 256)

-- the number whose bytes these are, the lowest first
abbrev pub number_of : List ℕ → ℕ
number_of [] = 0
number_of (byte ∷ rest) = byte + 256 * number_of rest

-- the n bytes from place `at` on as a number; what they leave of a word is 0
abbrev pub peeked : Ring → ℕ → ℕ → ℕ
peeked ring at n = number_of (take n (drop at ring.bytes))

-- What holds of a ring over several calls.
use Rattle.std.specs.Prelude.{◌≡◌, ℕ, ◌+◌, ◌<◌, ◌≤◌, List, length, All}
use Rattle.usb_ring.specs.Ring.{Ring, appended, without_first, peeked, low_bytes, number_of}

-- what was peeked stays as it was, whatever is put in behind it
abbrev pub PeekedStays : Type 0
PeekedStays =
    (ring : Ring) (new : List ℕ) (at n : ℕ) → at + n ≤ length ring.bytes →
    peeked (appended ring new) at n ≡ peeked ring at n

-- a commit leaves what lies behind it, that much nearer to the front
abbrev pub CommitMoves : Type 0
CommitMoves = (ring : Ring) (gone at n : ℕ) → peeked (without_first ring gone) at n ≡ peeked ring (gone + at) n

-- bytes that are read as a number are the number's bytes again
abbrev pub WordKeepsBytes : Type 0
WordKeepsBytes =
    (bytes : List ℕ) → All (λ byte. byte < 256) bytes →
    low_bytes (length bytes) (number_of bytes) ≡ bytes

-- A number that has a ring is one of those from 1 to the last.
use Rattle.std.proofs.Common.{ℕ, zero, suc, ◌+◌, ◌≤◌, List, [], ◌∷◌, length, arith}
use Rattle.usb_ring.specs.Ring.{Ring}
use Rattle.device_rings.specs.Rings.{numbered, IsRing}

pub from_one : (rings : List Ring) (n : ℕ) → IsRing (numbered rings n) → 1 ≤ n
from_one rings zero h = absurd (omega (arith, h))
from_one rings (suc n) h = omega arith

pub to_last : (rings : List Ring) (n : ℕ) → IsRing (numbered rings n) → n ≤ length rings
to_last rings zero h = omega arith
to_last [] (suc n) h = absurd (omega (arith, h))
to_last (ring ∷ rings) (suc zero) h = omega arith
to_last (ring ∷ rings) (suc (suc n)) h = let rest = to_last rings (suc n) h in omega (arith, rest)

-- a word that has room has a ring
pub from_one_room : (rings : List Ring) (n size : ℕ) → 1 ≤ size → length (numbered rings n).bytes + size ≤ (numbered rings n).capacity → 1 ≤ n
from_one_room rings n size some h = from_one rings n (omega (arith, some, h))

pub to_last_room : (rings : List Ring) (n size : ℕ) → 1 ≤ size → length (numbered rings n).bytes + size ≤ (numbered rings n).capacity → n ≤ length rings
to_last_room rings n size some h = to_last rings n (omega (arith, some, h))

-- bytes that are there are in a ring
pub from_one_there : (rings : List Ring) (n at size : ℕ) → 1 ≤ size → at + size ≤ length (numbered rings n).bytes → 1 ≤ n
from_one_there rings zero at size some h = absurd (omega (arith, some, h))
from_one_there rings (suc n) at size some h = omega arith

pub to_last_there : (rings : List Ring) (n at size : ℕ) → 1 ≤ size → at + size ≤ length (numbered rings n).bytes → n ≤ length rings
to_last_there rings zero at size some h = omega arith
to_last_there [] (suc n) at size some h = absurd (omega (arith, some, h))
to_last_there (ring ∷ rings) (suc zero) at size some h = omega arith
to_last_there (ring ∷ rings) (suc (suc n)) at size some h = let rest = to_last_there rings (suc n) at size some h in omega (arith, rest)

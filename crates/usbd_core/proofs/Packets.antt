-- The packets of a data stage.
use Rattle.std.proofs.Common.{◌≡◌, ℕ, zero, suc, ◌+◌, ◌<◌, List, [], Some, length, take, min, ap, refl, arith}
use Rattle.std.proofs.lemmas.List.{length-take, take_all}
use Rattle.device_machine.specs.Packets.{packet_count, packet_at, data_packets}
use Rattle.usbd_core.specs.Stage.{packets_from, first_of, rest_of}

-- the packets of cut data are those of the data
pub packets_of : (bytes : List ℕ) (allowed : ℕ) → packets_from (take allowed bytes) 0 (packet_count (length (take allowed bytes)) allowed) ≡ data_packets bytes allowed
packets_of bytes allowed =
    ap (λ n. packets_from (take allowed bytes) 0 (packet_count n allowed)) (cut bytes allowed)
  where
    cut : (bytes : List ℕ) (allowed : ℕ) → length (take allowed bytes) ≡ min (length bytes) allowed
    cut bytes allowed = omega (arith, length-take allowed bytes)

-- the first of the packets that are left, and the others
pub none_left : (bytes : List ℕ) (next left : ℕ) → left ≡ 0 → packets_from bytes next left ≡ []
none_left bytes next left e = ap (packets_from bytes next) e

pub first_left : (bytes : List ℕ) (next left : ℕ) → 0 < left → first_of (packets_from bytes next left) ≡ Some (packet_at bytes next)
first_left bytes next zero some = absurd (omega arith)
first_left bytes next (suc left) some = refl

pub rest_left : (bytes : List ℕ) (next left less : ℕ) → left ≡ less + 1 → rest_of (packets_from bytes next left) ≡ packets_from bytes (next + 1) less
rest_left bytes next zero less e = absurd (omega arith)
rest_left bytes next (suc left) less e =
    let same : left ≡ less = omega arith in
    ap (packets_from bytes (next + 1)) same

-- the first bytes of a list, at most so many
pub first_bytes : (xs : List ℕ) (n k : ℕ) → k ≡ min (length xs) n → take k xs ≡ take n xs
first_bytes xs n k e = grind (arith, take_all n xs, take_all k xs)

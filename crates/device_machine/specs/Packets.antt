-- The packets of a data stage for the host on endpoint 0: USB 2.0, 8.5.3.
use Rattle.std.specs.Prelude.{ℕ, suc, zero, ◌+◌, ◌*◌, ◌/◌, List, [], ◌∷◌, nat_lt, length, take, drop, map, min, if◌then◌else◌}

-- the packet size of endpoint 0
abbrev pub packet_size : ℕ
packet_size = 64

abbrev pub packet_size_less_one : ℕ
packet_size_less_one = 63

-- How many packets a data stage of so many bytes has, where the host allows `allowed`, which aren't fewer: data that
-- is shorter than that ends with a packet that isn't full, an empty one where need be (8.5.3.2, 5.5.3).
abbrev pub packet_count : ℕ → ℕ → ℕ
packet_count bytes allowed =
    if nat_lt bytes allowed then bytes / packet_size + 1 else (bytes + packet_size_less_one) / packet_size

-- packet number i
abbrev pub packet_at : List ℕ → ℕ → List ℕ
packet_at bytes i = take packet_size (drop (packet_size * i) bytes)

-- 0, 1, 2 and on, below n
abbrev pub numbers_from : ℕ → ℕ → List ℕ
numbers_from start zero = []
numbers_from start (suc n) = start ∷ numbers_from (start + 1) n

-- the packets of a data stage for the host: the data cut to what the host allows, in packets of 64
abbrev pub data_packets : List ℕ → ℕ → List (List ℕ)
data_packets bytes allowed =
    map (packet_at (take allowed bytes)) (numbers_from 0 (packet_count (min (length bytes) allowed) allowed))

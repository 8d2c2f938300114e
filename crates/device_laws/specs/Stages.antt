-- What the packets of a data stage for the host are: USB 2.0, 8.5.3.2, 5.5.3 and 9.3.5.
use Rattle.std.specs.Prelude.{◌≡◌, ◌≤◌, ◌<◌, ◌⊎◌, ℕ, List, [], ◌∷◌, length, take}
use Rattle.std.specs.List.{concat, AllByRecursion}
use Rattle.device_machine.specs.Packets.{data_packets}

-- each packet but the last has exactly so many bytes
abbrev pub FullButLast : ℕ → List (List ℕ) → Type 0
FullButLast size [] = Unit {0}
FullButLast size (packet ∷ []) = Unit {0}
FullButLast size (packet ∷ next ∷ packets) = (length packet ≡ size) × FullButLast size (next ∷ packets)

-- what the last packet is, where there is one
abbrev pub Last : (List ℕ → Type 0) → List (List ℕ) → Type 0
Last Is [] = Unit {0}
Last Is (packet ∷ []) = Is packet
Last Is (packet ∷ next ∷ packets) = Last Is (next ∷ packets)

-- the packets of these bytes on an endpoint with packets of `size` bytes, where the host asks for `asked` (wLength)
pub record IsDataStage (size : ℕ) (bytes : List ℕ) (asked : ℕ) (packets : List (List ℕ)) : Type 0 where
  -- joined in order they are the data, cut to what the host asks for
  pub joined : concat packets ≡ take asked bytes
  pub full : FullButLast size packets
  -- and none has more than the endpoint's size (5.5.3)
  pub most : AllByRecursion (λ packet. length packet ≤ size) packets
  -- the last one tells the host that it is the last: it is shorter, or the host has all that it asked for
  pub ended : Last (λ packet. (length packet < size) ⊎ (length (concat packets) ≡ asked)) packets
  -- so an empty one comes only where the host asked for more than there is
  pub none_more : Last (λ packet. length packet ≡ 0 → length bytes < asked) packets

-- so are those of endpoint 0, in packets of 64 bytes, wherever the host asks for any
abbrev pub DataStages : Type 0
DataStages = (bytes : List ℕ) (asked : ℕ) → IsDataStage 64 bytes asked (data_packets bytes asked)

-- so data of more than 64 bytes isn't one packet, whatever the host asks for
abbrev pub LongIsNotOne : Type 0
LongIsNotOne = (bytes : List ℕ) (asked : ℕ) → 64 < length bytes → IsDataStage 64 bytes asked (bytes ∷ []) → ⊥

-- where the host asks for any byte there is a packet
abbrev pub HasPacket : Type 0
HasPacket = (bytes : List ℕ) (asked : ℕ) → 0 < asked → 0 < length (data_packets bytes asked)

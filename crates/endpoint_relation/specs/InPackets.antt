-- The packets of a transfer as places in the ring.
use Rattle.std.specs.Prelude.{◌≡◌, ℕ, zero, suc, ◌+◌, ◌-◌, ◌*◌, ◌/◌, ◌≤◌, min, max, List, [], ◌∷◌, length, take, drop}
use Rattle.std.specs.List.{concat}
use Rattle.device_pipe.specs.InPipe.{cut, most_loaded}
use Rattle.endpoint_relation.specs.declared.in_.InEndpoint.{InEndpoint}
use Rattle.endpoint_relation.specs.InRelation.{IsTransfer}
use Rattle.endpoint_relation.specs.InSteps.{next_packets}

-- so many bytes of the ring from a place on
abbrev pub bytes_at : List ℕ → ℕ → ℕ → List ℕ
bytes_at ring place n = take n (drop place ring)

-- the packet behind those that were acknowledged, and the one behind that
abbrev pub packet_at : InEndpoint → List ℕ → ℕ → List ℕ
packet_at s ring i =
    let place = s.sent + i * s.endpoint.size in
    bytes_at ring place (min s.endpoint.size (s.bytes - place))

-- one packet is left, or two are loaded
abbrev pub placed_packets : ℕ → InEndpoint → List ℕ → List (List ℕ)
placed_packets zero s ring = []
placed_packets (suc zero) s ring = packet_at s ring 0 ∷ []
placed_packets (suc (suc left)) s ring = packet_at s ring 0 ∷ packet_at s ring 1 ∷ []

-- what is loaded next: the packets, how many they are, and how many bytes they have
pub record Next (s : InEndpoint) (ring : List ℕ) : Type 0 where
  pub packets : next_packets s ring ≡ placed_packets s.left s ring
  pub count : length (next_packets s ring) ≡ min most_loaded s.left
  pub bytes : length (concat (next_packets s ring)) ≡ min (min most_loaded s.left * s.endpoint.size) (s.bytes - s.sent)

abbrev pub NextPackets : Type 0
NextPackets = (s : InEndpoint) (ring : List ℕ) → IsTransfer s ring → Next s ring

-- how many packets some bytes have
abbrev pub PacketCount : Type 0
PacketCount = (size : ℕ) (bytes : List ℕ) → 1 ≤ size → length (cut size bytes) ≡ max 1 ((length bytes + (size - 1)) / size)

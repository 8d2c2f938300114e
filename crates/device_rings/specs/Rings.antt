-- The rings of a device's endpoints: two lists, by direction, and in each the rings of endpoints 1, 2 and so on.
use Rattle.std.specs.Prelude.{ℕ, zero, suc, ◌-◌, ◌<◌, nat_le, List, [], Bool, get_or, set, map, if◌then◌else◌}
use Rattle.usb_ring.specs.Ring.{Ring}

pub record Rings : Type 0 where
  -- for bytes from the host
  pub outs : List Ring
  -- for bytes to the host
  pub ins : List Ring

-- what an endpoint without a ring has: nothing is in it, and nothing goes in
abbrev pub no_ring : Ring
no_ring = record { bytes = []; capacity = 0 }

-- the ring of a number in one direction. Endpoint 0 has none
abbrev pub numbered : List Ring → ℕ → Ring
numbered rings zero = no_ring
numbered rings (suc n) = get_or rings n no_ring

abbrev pub with_numbered : List Ring → ℕ → Ring → List Ring
with_numbered rings zero ring = rings
with_numbered rings (suc n) ring = set rings n ring

abbrev pub out_ring : Rings → ℕ → Ring
out_ring rings n = numbered rings.outs n

abbrev pub in_ring : Rings → ℕ → Ring
in_ring rings n = numbered rings.ins n

abbrev pub with_out_ring : Rings → ℕ → Ring → Rings
with_out_ring rings n ring = record rings { outs = with_numbered rings.outs n ring }

abbrev pub with_in_ring : Rings → ℕ → Ring → Rings
with_in_ring rings n ring = record rings { ins = with_numbered rings.ins n ring }

-- an endpoint's address: IN is bit 7, and the bits below are the number (bEndpointAddress, USB 2.0, 9.6.6)
abbrev pub is_in : ℕ → Bool
is_in address = nat_le 128 address

-- the ring of an endpoint's address
abbrev pub ring_at : Rings → ℕ → Ring
ring_at rings address = if is_in address then in_ring rings (address - 128) else out_ring rings address

abbrev pub with_ring_at : Rings → ℕ → Ring → Rings
with_ring_at rings address ring =
    if is_in address then with_in_ring rings (address - 128) ring else with_out_ring rings address ring

-- an address names a ring, and a number one in a direction
abbrev pub IsRing : Ring → Type 0
IsRing ring = 0 < ring.capacity

-- a ring without its bytes
abbrev pub emptied : Ring → Ring
emptied ring = record ring { bytes = [] }

-- all of them without their bytes
abbrev pub all_emptied : Rings → Rings
all_emptied rings = record { outs = map emptied rings.outs; ins = map emptied rings.ins }

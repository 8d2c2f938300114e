-- Rings are kept apart, and each endpoint of a class has one.
use Rattle.std.specs.Prelude.{◌≡◌, ◌≢◌, ℕ, List, true}
use Rattle.std.specs.List.{list_any, AllByRecursion}
use Rattle.usb_descriptor.specs.declared.endpoint.Endpoint.{Endpoint}
use Rattle.usb_descriptor.specs.declared.limits.EpLimits.{EpLimits}
use Rattle.usb_descriptor.specs.Set.{is_addressed}
use Rattle.usb_ring.specs.Ring.{Ring}
use Rattle.device_rings.specs.Rings.{Rings, out_ring, in_ring, with_out_ring, with_in_ring, ring_at, with_ring_at, IsRing, emptied, all_emptied}
use Rattle.device_rings.specs.Sizes.{rings_of, ring_size, empty}

-- the ring that was put in is there, and all others are as they were
pub record AreApart : Type 0 where
  pub out_is : (rings : Rings) (n : ℕ) (ring : Ring) → IsRing (out_ring rings n) → out_ring (with_out_ring rings n ring) n ≡ ring
  pub in_is : (rings : Rings) (n : ℕ) (ring : Ring) → IsRing (in_ring rings n) → in_ring (with_in_ring rings n ring) n ≡ ring
  pub out_others : (rings : Rings) (n m : ℕ) (ring : Ring) → m ≢ n → out_ring (with_out_ring rings n ring) m ≡ out_ring rings m
  pub in_others : (rings : Rings) (n m : ℕ) (ring : Ring) → m ≢ n → in_ring (with_in_ring rings n ring) m ≡ in_ring rings m
  pub out_leaves_ins : (rings : Rings) (n m : ℕ) (ring : Ring) → in_ring (with_out_ring rings n ring) m ≡ in_ring rings m
  pub in_leaves_outs : (rings : Rings) (n m : ℕ) (ring : Ring) → out_ring (with_in_ring rings n ring) m ≡ out_ring rings m

-- the same by addresses
pub record AreApartByAddress : Type 0 where
  pub is : (rings : Rings) (a : ℕ) (ring : Ring) → IsRing (ring_at rings a) → ring_at (with_ring_at rings a ring) a ≡ ring
  pub others : (rings : Rings) (a b : ℕ) (ring : Ring) → b ≢ a → ring_at (with_ring_at rings a ring) b ≡ ring_at rings b

-- each ring is emptied and keeps its room
pub record AreEmptied : Type 0 where
  pub outs : (rings : Rings) (n : ℕ) → out_ring (all_emptied rings) n ≡ emptied (out_ring rings n)
  pub ins : (rings : Rings) (n : ℕ) → in_ring (all_emptied rings) n ≡ emptied (in_ring rings n)

-- the highest endpoint numbers of the controller (RM0090, OTG_FS)
abbrev pub three : EpLimits → Type 0
three limits = (limits.in_top ≡ 3) × (limits.out_top ≡ 3)

-- of the endpoints of an accepted set each has at its address the empty ring of its size, and no other address has one
pub record HaveRings (endpoints : List Endpoint) : Type 0 where
  pub each : AllByRecursion (λ e. ring_at (rings_of endpoints) e.addr ≡ empty (ring_size e)) endpoints
  pub no_other : (a : ℕ) → IsRing (ring_at (rings_of endpoints) a) → list_any (is_addressed a) endpoints ≡ true

-- A place that has a ring or none, and the size of a ring by its power of two.
use Rattle.std.specs.Prelude.{ℕ, ◌^◌, Option, None, Some}
use Rattle.usb_ring.specs.Ring.{Ring}
use Rattle.device_rings.specs.Rings.{no_ring}

abbrev pub ring_in : Option Ring → Ring
ring_in None = no_ring
ring_in (Some ring) = ring

abbrev pub capacity_of : Option ℕ → ℕ
capacity_of None = 0
capacity_of (Some log2) = 2 ^ log2

-- What the rules on addresses, on packets and on the highest numbers give of the endpoints of an accepted set.
use Rattle.std.specs.Prelude.{ℕ, ◌+◌, ◌≤◌, ◌==◌, ◌⊎◌, List, length, map}
use Rattle.std.specs.List.{IsDistinct, AllByRecursion}
use Rattle.usb_descriptor.specs.declared.limits.EpLimits.{EpLimits}
use Rattle.usb_descriptor.specs.declared.endpoint.Endpoint.{Endpoint}

-- a number that the controller has, from 1 on, in bits 3 to 0 of the address; IN is bit 7 (USB 2.0, 9.6.6)
abbrev pub IsOutAddress : EpLimits → ℕ → Type 0
IsOutAddress limits address = (1 ≤ address) × (address ≤ limits.out_top)

abbrev pub IsInAddress : EpLimits → ℕ → Type 0
IsInAddress limits address = (129 ≤ address) × (address ≤ 128 + limits.in_top)

-- such an address, and packets of 1 to 64 bytes
abbrev pub IsServed : EpLimits → Endpoint → Type 0
IsServed limits e = (IsOutAddress limits e.addr ⊎ IsInAddress limits e.addr) × (1 ≤ e.size) × (e.size ≤ 64)

-- so has each, and no two have one address: at most 15 in each direction
pub record AreServed (limits : EpLimits) (endpoints : List Endpoint) : Type 0 where
  pub distinct : IsDistinct (λ a b. a == b) (map (λ e. e.addr) endpoints)
  pub each : AllByRecursion (IsServed limits) endpoints
  pub few : length endpoints ≤ 30

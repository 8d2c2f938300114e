-- How many bytes each ring has room for: what no call changes.
use Rattle.std.specs.Prelude.{ℕ, List, map}
use Rattle.usb_ring.specs.Ring.{Ring}
use Rattle.device_rings.specs.Rings.{Rings}

pub record Capacities : Type 0 where
  pub outs : List ℕ
  pub ins : List ℕ

abbrev pub capacities : List Ring → List ℕ
capacities rings = map (λ ring. ring.capacity) rings

abbrev pub capacities_of : Rings → Capacities
capacities_of r = record { outs = capacities r.outs; ins = capacities r.ins }

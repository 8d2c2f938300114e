-- A ring whose bytes change keeps its room.
use Rattle.std.proofs.Common.{◌≡◌, ℕ, zero, suc, ◌-◌, List, [], ◌∷◌, map, Bool, true, false, refl, ap, ◌∙◌}
use Rattle.std.specs.Prelude.{nat_le, if◌then◌else◌}
use Rattle.std.proofs.Math.Seq.{map-set_same}
use Rattle.usb_ring.specs.Ring.{Ring}
use Rattle.device_rings.specs.Rings.{Rings, no_ring, out_ring, in_ring, with_out_ring, with_in_ring, ring_at, with_ring_at, emptied, all_emptied}
use Rattle.device_rings.specs.Capacities.{capacities, capacities_of}

pub with_out : (r : Rings) (n : ℕ) (bytes : List ℕ) → capacities_of (with_out_ring r n (record (out_ring r n) { bytes = bytes })) ≡ capacities_of r
with_out r zero bytes = refl
with_out r (suc m) bytes =
    ap (λ cs. record (capacities_of r) { outs = cs }) (map-set_same (λ (ring : Ring). ring.capacity) r.outs m (record (out_ring r (suc m)) { bytes = bytes }) no_ring refl)

pub with_in : (r : Rings) (n : ℕ) (bytes : List ℕ) → capacities_of (with_in_ring r n (record (in_ring r n) { bytes = bytes })) ≡ capacities_of r
with_in r zero bytes = refl
with_in r (suc m) bytes =
    ap (λ cs. record (capacities_of r) { ins = cs }) (map-set_same (λ (ring : Ring). ring.capacity) r.ins m (record (in_ring r (suc m)) { bytes = bytes }) no_ring refl)

pub with_at : (r : Rings) (address : ℕ) (bytes : List ℕ) → capacities_of (with_ring_at r address (record (ring_at r address) { bytes = bytes })) ≡ capacities_of r
with_at r address bytes = by (nat_le 128 address)
  where
    by : (b : Bool)
        → capacities_of (if b then with_in_ring r (address - 128) (record (if b then in_ring r (address - 128) else out_ring r address) { bytes = bytes })
        else with_out_ring r address (record (if b then in_ring r (address - 128) else out_ring r address) { bytes = bytes }))
        ≡ capacities_of r
    by true = with_in r (address - 128) bytes
    by false = with_out r address bytes

each : (xs : List Ring) → capacities (map emptied xs) ≡ capacities xs
each [] = refl
each (x ∷ xs) = ap (λ cs. x.capacity ∷ cs) (each xs)

pub without_bytes : (r : Rings) → capacities_of (all_emptied r) ≡ capacities_of r
without_bytes r = ap (λ cs. record { outs = cs; ins = capacities (map emptied r.ins) }) (each r.outs) ∙ ap (λ cs. record { outs = capacities r.outs; ins = cs }) (each r.ins)

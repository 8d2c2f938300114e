-- A ring that is put in its place, and the others.
use Rattle.std.proofs.Common.{◌≡◌, ◌≢◌, ℕ, zero, suc, ◌-◌, ◌≤◌, List, [], ◌∷◌, Bool, true, false, map, refl, ap, arith, get_or-set_same, get_or-set_other}
use Rattle.std.specs.Prelude.{nat_le, if◌then◌else◌}
use Rattle.std.proofs.lemmas.Bool.Decides.{nat_tests}
use Rattle.usb_ring.specs.Ring.{Ring}
use Rattle.device_rings.specs.Rings.{Rings, no_ring, numbered, with_numbered, in_ring, out_ring, with_in_ring, with_out_ring, is_in, IsRing, emptied}
use Rattle.device_rings.specs.Laws.{AreApart, AreApartByAddress, AreEmptied}
use Rattle.device_rings.proofs.Numbered.{to_last}

pub put : (rings : List Ring) (n : ℕ) (ring : Ring) → IsRing (numbered rings n) → numbered (with_numbered rings n ring) n ≡ ring
put rings zero ring h = absurd (omega (arith, h))
put rings (suc n) ring h = let last = to_last rings (suc n) h in get_or-set_same rings n ring no_ring (omega (arith, last))

pub other : (rings : List Ring) (n m : ℕ) (ring : Ring) → m ≢ n → numbered (with_numbered rings n ring) m ≡ numbered rings m
other rings zero m ring h = refl
other rings (suc n) zero ring h = refl
other rings (suc n) (suc m) ring h = get_or-set_other rings n m ring no_ring (λ e. h (ap suc e))

pub are_apart : AreApart
are_apart = record {
  out_is = λ rings n ring h. put rings.outs n ring h;
  in_is = λ rings n ring h. put rings.ins n ring h;
  out_others = λ rings n m ring h. other rings.outs n m ring h;
  in_others = λ rings n m ring h. other rings.ins n m ring h;
  out_leaves_ins = λ rings n m ring. refl;
  in_leaves_outs = λ rings n m ring. refl;
}

abbrev ring_by : Rings → Bool → ℕ → ℕ → Ring
ring_by rings to_host n m = if to_host then in_ring rings n else out_ring rings m

abbrev with_ring_by : Rings → Bool → ℕ → ℕ → Ring → Rings
with_ring_by rings to_host n m ring = if to_host then with_in_ring rings n ring else with_out_ring rings m ring

put_by : (rings : Rings) (to_host : Bool) (n m : ℕ) (ring : Ring) → IsRing (ring_by rings to_host n m) → ring_by (with_ring_by rings to_host n m ring) to_host n m ≡ ring
put_by rings true n m ring h = put rings.ins n ring h
put_by rings false n m ring h = put rings.outs m ring h

other_by : (rings : Rings) (s t : Bool) (n m k l : ℕ) (ring : Ring) → (s ≡ true → t ≡ true → k ≢ n) → l ≢ m
    → ring_by (with_ring_by rings s n m ring) t k l ≡ ring_by rings t k l
other_by rings true true n m k l ring g h = other rings.ins n k ring (g refl refl)
other_by rings true false n m k l ring g h = refl
other_by rings false true n m k l ring g h = refl
other_by rings false false n m k l ring g h = other rings.outs m l ring h

numbers_differ : (a b : ℕ) → nat_le 128 a ≡ true → nat_le 128 b ≡ true → b ≢ a → b - 128 ≢ a - 128
numbers_differ a b high_a high_b h e = h (same (grind (arith, nat_tests, high_a)) (grind (arith, nat_tests, high_b)))
  where
    same : 128 ≤ a → 128 ≤ b → b ≡ a
    same i j = omega (arith, e, i, j)

pub are_apart_by_address : AreApartByAddress
are_apart_by_address = record {
  is = λ rings a ring h. put_by rings (is_in a) (a - 128) a ring h;
  others = λ rings a b ring h. other_by rings (is_in a) (is_in b) (a - 128) a (b - 128) b ring (λ i j. numbers_differ a b i j h) h;
}

pub emptied_at : (rings : List Ring) (n : ℕ) → numbered (map emptied rings) n ≡ emptied (numbered rings n)
emptied_at rings zero = refl
emptied_at [] (suc n) = refl
emptied_at (ring ∷ rings) (suc zero) = refl
emptied_at (ring ∷ rings) (suc (suc n)) = emptied_at rings (suc n)

pub are_emptied : AreEmptied
are_emptied = record { outs = λ rings n. emptied_at rings.outs n; ins = λ rings n. emptied_at rings.ins n }

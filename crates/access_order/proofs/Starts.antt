-- Before the first run, and at the start of each.
use Rattle.std.proofs.Common.{◌≡◌, ◌≤◌, ℕ, zero, suc, Bool, true, false, [], refl, arith}
use Rattle.access_order.specs.Order.{Order, InOrder, in_of, out_of, in_begun, begun, no_in, unused}
use Rattle.access_order.specs.Phase.{serving, InFits, Over, Kept}

-- what is said of one run is forgotten at the next
in_fresh : (o : Order) (m : ℕ) → in_of (begun o) m ≡ in_begun (in_of o m)
in_fresh o zero = refl
in_fresh o (suc m) = refl

out_fresh : (o : Order) (m : ℕ) → out_of (begun o) m ≡ out_of o m
out_fresh o zero = refl
out_fresh o (suc m) = refl

still_fits : (b : Bool) (e : InOrder) → InFits b e → InFits b (in_begun e)
still_fits true e h = h
still_fits false e h = h

pub fresh : (loads : ℕ → Bool) (o : Order) → Over loads o → Kept (begun o) [] (serving 0 loads)
fresh loads o h = record {
  ordered = refl;
  state = record {
    runs = record { found = refl; woken = refl; beyond = record { ins = ins; outs = outs } };
    none = none;
    ended = ended;
    fit = fit;
  };
} where
  ins : (m : ℕ) → 4 ≤ m → (in_of (begun o) m).enabled ≡ false
  ins m f = rw (in_fresh o m) (h.beyond.ins m f)

  outs : (m : ℕ) → 4 ≤ m → (out_of (begun o) m).enabled ≡ false
  outs m f = rw (out_fresh o m) (h.beyond.outs m f)

  none : (m : ℕ) → 0 ≤ m → (in_of (begun o) m).loaded ≡ false
  none m f = rw (in_fresh o m) refl

  ended : (m : ℕ) → m ≤ 3 → (out_of (begun o) m).ended ≡ false
  ended m f = rw (out_fresh o m) (h.ended m f)

  fit : (m : ℕ) → 1 ≤ m → m ≤ 3 → InFits (loads m) (in_of (begun o) m)
  fit m f t = rw (in_fresh o m) (still_fits (loads m) (in_of o m) (h.fit m f t))

-- before the first run no endpoint is enabled, and no XFRC is set
unused_fits : (b : Bool) → InFits b no_in
unused_fits true = refl
unused_fits false = (refl, refl)

pub starts : (loads : ℕ → Bool) → Over loads unused
starts loads = record {
  found = refl;
  beyond = record { ins = λ m _. ins m; outs = λ m _. outs m };
  ended = λ m _. ended m;
  fit = fit;
} where
  ins : (m : ℕ) → (in_of unused m).enabled ≡ false
  ins zero = refl
  ins (suc m) = refl

  outs : (m : ℕ) → (out_of unused m).enabled ≡ false
  outs zero = refl
  outs (suc m) = refl

  ended : (m : ℕ) → (out_of unused m).ended ≡ false
  ended zero = refl
  ended (suc m) = refl

  fit : (m : ℕ) → 1 ≤ m → m ≤ 3 → InFits (loads m) (in_of unused m)
  fit zero f t = absurd (omega (arith, f))
  fit (suc m) f t = unused_fits (loads (suc m))

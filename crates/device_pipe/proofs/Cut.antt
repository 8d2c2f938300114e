-- The packets of a transfer.
use Rattle.std.proofs.Common.{◌≡◌, ℕ, zero, suc, ◌≤◌, ◌<◌, ◌++◌, List, [], ◌∷◌, Bool, true, false, if◌then◌else◌, nat_le, length, take, drop, refl, sym, ap, ◌∙◌, arith, append-nil, length-drop, length-take-le, take-append-drop, leb-true, leb-false, le-leb}
use Rattle.std.specs.List.{concat}
use Rattle.std.proofs.lemmas.Bool.{lt-leb}
use Rattle.device_pipe.specs.InPipe.{cut_within, cut}
use Rattle.device_pipe.specs.Laws.{AreFull}

not_below : (size : ℕ) → size < 0 → ⊥
not_below size h = omega arith

not_both : (n : ℕ) → 1 ≤ n → n ≤ 0 → ⊥
not_both n one h = omega arith

joined_if : (b : Bool) (xs : List (List ℕ)) (bytes : List ℕ) → concat xs ≡ bytes → concat (if b then bytes ∷ [] else xs) ≡ bytes
joined_if true xs bytes e = append-nil bytes
joined_if false xs bytes e = e

joined_within : (most size : ℕ) (bytes : List ℕ) → concat (cut_within most size bytes) ≡ bytes
joined_within zero size bytes = append-nil bytes
joined_within (suc most) size bytes =
    joined_if (nat_le (length bytes) size) (take size bytes ∷ cut_within most size (drop size bytes)) bytes
    (ap (λ y. take size bytes ++ y) (joined_within most size (drop size bytes)) ∙ take-append-drop size bytes)

-- the packets joined are the bytes
pub joined : (size : ℕ) (bytes : List ℕ) → concat (cut size bytes) ≡ bytes
joined size bytes = joined_within (length bytes) size bytes

-- where the bytes fit into one packet, and where they don't
fits_in : (most size : ℕ) (bytes : List ℕ) → length bytes ≤ size → cut_within (suc most) size bytes ≡ bytes ∷ []
fits_in most size bytes h = ap (λ b. if b then bytes ∷ [] else take size bytes ∷ cut_within most size (drop size bytes)) (le-leb (length bytes) size h)

is_more : (most size : ℕ) (bytes : List ℕ) → size < length bytes → cut_within (suc most) size bytes ≡ take size bytes ∷ cut_within most size (drop size bytes)
is_more most size bytes h = ap (λ b. if b then bytes ∷ [] else take size bytes ∷ cut_within most size (drop size bytes)) (lt-leb (length bytes) size h)

pub single : (size : ℕ) (bytes : List ℕ) → length bytes ≤ size → cut size bytes ≡ bytes ∷ []
single size [] h = refl
single size (x ∷ bytes) h = fits_in (length bytes) size (x ∷ bytes) h

-- it doesn't matter how much more than the bytes the bound allows
within_same : (m k size : ℕ) (bytes : List ℕ) → 1 ≤ size → length bytes ≤ m → length bytes ≤ k → cut_within m size bytes ≡ cut_within k size bytes
within_same zero zero size bytes s hm hk = refl
within_same zero (suc k) size bytes s hm hk = sym (fits_in k size bytes (omega arith))
within_same (suc m) zero size bytes s hm hk = fits_in m size bytes (omega arith)
within_same (suc m) (suc k) size bytes s hm hk =
    let same : cut_within m size (drop size bytes) ≡ cut_within k size (drop size bytes) =
    within_same m k size (drop size bytes) s (grind (arith, length-drop size bytes)) (grind (arith, length-drop size bytes)) in
    ap (λ y. if nat_le (length bytes) size then bytes ∷ [] else take size bytes ∷ y) same

pub more : (size : ℕ) (bytes : List ℕ) → 1 ≤ size → size < length bytes → cut size bytes ≡ take size bytes ∷ cut size (drop size bytes)
more size [] s h = elim (not_below size h) [ ]
more size (x ∷ bytes) s h =
    is_more (length bytes) size (x ∷ bytes) h ∙
    ap (λ y. take size (x ∷ bytes) ∷ y)
    (within_same (length bytes) (length (drop size (x ∷ bytes))) size (drop size (x ∷ bytes)) s (grind (arith, length-drop size (x ∷ bytes))) (omega arith))

-- one packet more in front
in_front : (size : ℕ) (packet : List ℕ) (packets : List (List ℕ)) → length packet ≡ size → AreFull size packets → AreFull size (packet ∷ packets)
in_front size packet [] e f = elim f [ ]
in_front size packet (next ∷ packets) e f = (e, f)

full_if : (most size : ℕ) (bytes : List ℕ) (b : Bool) → nat_le (length bytes) size ≡ b → 1 ≤ length bytes →
    (size < length bytes → AreFull size (cut_within most size (drop size bytes))) → AreFull size (if b then bytes ∷ [] else take size bytes ∷ cut_within most size (drop size bytes))
full_if most size bytes true e one f = (one, leb-true (length bytes) size e)
full_if most size bytes false e one f =
    let below = leb-false (length bytes) size e in
    in_front size (take size bytes) (cut_within most size (drop size bytes)) (length-take-le size bytes (omega (arith, below))) (f below)

full_within : (most size : ℕ) (bytes : List ℕ) → 1 ≤ size → 1 ≤ length bytes → length bytes ≤ most → AreFull size (cut_within most size bytes)
full_within zero size bytes s one h = elim (not_both (length bytes) one h) [ ]
full_within (suc most) size bytes s one h =
    full_if most size bytes (nat_le (length bytes) size) refl one (λ below.
    full_within most size (drop size bytes) s (grind (arith, length-drop size bytes)) (grind (arith, length-drop size bytes)))

-- each but the last is full, and the last isn't empty
pub full : (size : ℕ) (bytes : List ℕ) → 1 ≤ size → 1 ≤ length bytes → AreFull size (cut size bytes)
full size bytes s one = full_within (length bytes) size bytes s one (omega arith)

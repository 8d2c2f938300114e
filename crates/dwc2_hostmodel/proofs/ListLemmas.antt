-- A list whose items are changed one by one.
use Rattle.std.proofs.Common.{◌≡◌, ℕ, zero, suc, ◌+◌, ◌<◌, List, [], ◌∷◌, ◌++◌, length, get_or, set, map, take, drop, refl, ap, ◌∙◌, arith}

-- the first i items are changed; then one more is
pub map_one_more : {X : Type 0} (f : X → X) (xs : List X) (i : ℕ) (d : X) → i < length xs
    → set (map f (take i xs) ++ drop i xs) i (f (get_or (map f (take i xs) ++ drop i xs) i d)) ≡ map f (take (i + 1) xs) ++ drop (i + 1) xs
map_one_more f [] i d h = absurd (omega arith)
map_one_more f (x ∷ xs) zero d h = refl
map_one_more f (x ∷ xs) (suc i) d h =
    let more : suc (i + 1) ≡ suc i + 1 = omega arith in
    ap (λ ys. f x ∷ ys) (map_one_more f xs i d (omega arith))
    ∙ ap (λ (n : ℕ). map f (take n (x ∷ xs)) ++ drop n (x ∷ xs)) more

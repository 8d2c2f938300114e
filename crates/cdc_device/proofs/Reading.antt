-- A list of the size of what is read has nothing else behind it.
use Rattle.std.proofs.Common.{◌≡◌, ℕ, ◌≤◌, List, [], ◌++◌, min, length, take, drop, sym, ap, ◌∙◌, arith}
use Rattle.std.proofs.lemmas.List.{take_min, drop_min, length-take-le, append-nil}
use Rattle.std.proofs.Math.Seq.{take-length, drop-length}

-- what is read over a list of that size
pub read_over : (held items buf new : List ℕ) (most count : ℕ) → length items ≡ min most (length held) → buf ≡ items → length new ≡ length buf
    → count ≡ length (take (length buf) held) → take count new ≡ take (length buf) held → take (length items) (new ++ drop (length new) items) ≡ take most held
read_over held items buf new most count size is long gave same =
    let whole : length new ≡ length items = long ∙ ap length is in
    let some : length (take (length buf) held) ≡ length buf = length-take-le (length buf) held (fits (length buf) most (length held) (ap length is ∙ size)) in
    let all : count ≡ length new = gave ∙ some ∙ sym long in
    let read : new ≡ take most held =
    sym (take-length new) ∙ ap (λ n. take n new) (sym all) ∙ same ∙ ap (λ n. take n held) (ap length is ∙ size) ∙ take_min most held in
    let rest : drop (length new) items ≡ [] = ap (λ n. drop n items) whole ∙ drop-length items in
    ap (λ t. take (length items) (new ++ t)) rest ∙ ap (take (length items)) (append-nil new) ∙ ap (λ n. take n new) (sym whole) ∙ take-length new ∙ read
  where
    fits : (n most held : ℕ) → n ≡ min most held → n ≤ held
    fits n most held e = omega (arith, e)

-- and what it leaves
pub read_off : (held : List ℕ) (most size : ℕ) → size ≡ min most (length held) → drop size held ≡ drop most held
read_off held most size e = ap (λ n. drop n held) e ∙ drop_min most held

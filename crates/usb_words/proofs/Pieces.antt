-- The pieces of a line, at its first space.
use Rattle.std.proofs.Common.{◌≡◌, ℕ, ◌-◌, ◌<◌, ◌≤◌, List, [], ◌∷◌, length, take, drop, position, Some, None, refl, arith, cond, ltb, Bool, true, false}
use Rattle.std.specs.List.{position_or_len}
use Rattle.std.proofs.lemmas.List.Splits.{slice_split_first, slice_split_none}
use Rattle.std.proofs.lemmas.List.{take_all, length-drop, drop-drop}
use Rattle.std.proofs.lemmas.List.Sums.{fails_before_first}
use Rattle.std.proofs.lemmas.Option.{cond_some}
use borrow.Author.Tests.{ltb-true, ltb-false}
use Rattle.usb_words.specs.Field.{is_space, pieces}

tail_of : (tail : List ℕ) → take (length tail - 1) (drop 1 tail) ≡ drop 1 tail
tail_of tail = take_all (length tail - 1) (drop 1 tail) (omega (arith, length-drop 1 tail))

pub pieces_cut : (line word tail : List ℕ) (at : ℕ) → position is_space line ≡ Some at → word ≡ take at line → tail ≡ drop at line
    → pieces line ≡ word ∷ pieces (take (length tail - 1) (drop 1 tail))
pieces_cut line word tail at found front back =
    let cut = cond_some (ltb (position_or_len is_space line) (length line)) (position_or_len is_space line) at found in
    let within : position_or_len is_space line < length line = omega (arith, ltb-true, cut.0) in
    rw (front, back, tail_of (drop at line), drop-drop 1 at line, ← cut.1) (slice_split_first is_space line 0 within)

none_found : (b : Bool) (x : ℕ) → cond b (Some x) None ≡ None → b ≡ false
none_found true x h = cc
none_found false x h = refl

pub pieces_last : (line : List ℕ) → position is_space line ≡ None → pieces line ≡ line ∷ []
pieces_last line none =
    let past : length line ≤ position_or_len is_space line = omega (arith, ltb-false, none_found _ _ none) in
    slice_split_none is_space line (λ k d h. fails_before_first is_space line k d (omega arith))

-- A text with and without its last newline.
use Rattle.std.proofs.Common.{◌≡◌, ◌≢◌, ℕ, List, [], ◌∷◌, ◌++◌, Bool, true, false, eqb, refl, ap, arith}
use Rattle.std.proofs.lemmas.Bool.Decides.{nat_tests}
use Rattle.device_text.specs.Job.{closed}
use Rattle.device_text.proofs.Closed.{closed_line}
use Rattle.device_laws.specs.LastLine.{line_feed, LacksAtMostOne}

is_line_feed : (b : ℕ) → eqb b line_feed ≡ true → b ≡ line_feed
is_line_feed b h = grind (arith, nat_tests)

is_other : (b : ℕ) (same : Bool) → eqb b line_feed ≡ same → b ≢ line_feed → eqb b line_feed ≡ false
is_other b true e n = absurd (n (is_line_feed b e))
is_other b false e n = e

gets_one : (text : List ℕ) (b : ℕ) → eqb b line_feed ≡ false → closed (text ++ b ∷ []) ≡ text ++ b ∷ line_feed ∷ []
gets_one [] b e = rw e refl
gets_one (x ∷ []) b e = ap (λ t. x ∷ t) (gets_one [] b e)
gets_one (x ∷ y ∷ ys) b e = ap (λ t. x ∷ t) (gets_one (y ∷ ys) b e)

pub lacks_at_most_one : LacksAtMostOne
lacks_at_most_one = record {
  ended = λ text. closed_line text [];
  unended = λ text b n. gets_one text b (is_other b (eqb b line_feed) refl n);
  nothing = refl;
}

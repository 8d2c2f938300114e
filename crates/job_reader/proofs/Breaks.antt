-- The first newline of bytes.
use Rattle.std.proofs.Common.{◌≡◌, ℕ, suc, ◌+◌, ◌<◌, List, [], ◌∷◌, ◌++◌, Option, Some, None, Bool, true, false, not, eqb, length, take, drop, get_or, refl, ap, sym, ◌∙◌, arith}
use Rattle.std.proofs.lemmas.List.{take-append-drop, drop_more, length-take, get_or-take}
use Rattle.std.proofs.lemmas.Bool.Decides.{nat_tests}
use Rattle.memchr.specs.Find.{IsFirstByte, is_byte}
use Rattle.usb_text.specs.Line.{newline}
use Rattle.usb_text.specs.Plain.{is_plain}
use Rattle.job_reader.specs.Stream.{IsLineBreak}

not_so : (b : Bool) → (b ≡ true → ⊥) → not b ≡ true
not_so true h = absurd (h refl)
not_so false h = refl

plain_if : (bytes : List ℕ) → ((k : ℕ) → k < length bytes → eqb (get_or bytes k 0) newline ≡ true → ⊥) → is_plain bytes ≡ true
plain_if [] h = refl
plain_if (b ∷ bs) h =
    rw (not_so (eqb b newline) (h 0 (omega arith)), plain_if bs (λ k lt. h (suc k) (omega arith))) refl

same_byte : (a b : ℕ) → eqb a b ≡ true → a ≡ b
same_byte a b h = grind (arith, nat_tests)

broken_at : (bytes : List ℕ) (n : ℕ) → n < length bytes → get_or bytes n 0 ≡ newline → bytes ≡ take n bytes ++ newline ∷ drop (n + 1) bytes
broken_at bytes n lt e =
    sym (take-append-drop n bytes) ∙ ap (λ t. take n bytes ++ t) (drop_more bytes n 0 lt ∙ ap (λ b. b ∷ drop (n + 1) bytes) e)

pub line_broken : (bytes : List ℕ) (r : Option ℕ) → IsFirstByte (is_byte newline) bytes r → IsLineBreak bytes r
line_broken bytes None h = plain_if bytes (λ k lt e. h k (omega arith) lt e)
line_broken bytes (Some n) h = (
  h.0.high,
  plain_if (take n bytes) (λ k lt e.
      let below : k < n = omega (arith, length-take n bytes) in
      h.0.before k (omega arith) below (rw (sym (get_or-take n bytes k 0 below)) e)),
  broken_at bytes n h.0.high (same_byte _ _ h.1),
)

-- Words with one space between them are cut into those words again.
use Rattle.std.proofs.Common.{◌≡◌, ℕ, List, [], ◌∷◌, true, false, arith, refl, ap, ◌∙◌}
use Rattle.std.specs.List.{list_all, All}
use Rattle.std.proofs.lemmas.List.Sums.{AllPass-from_list_all}
use Rattle.std.proofs.lemmas.List.Splits.{slice_split_none, slice_split_at}
use Rattle.std.proofs.lemmas.Bool.Decides.{nat_tests}
use Rattle.usb_words.specs.Field.{space, is_space, pieces, spaced}
use Rattle.usb_words.proofs.Hex.{is_seen, is_word}
use Rattle.usb_words.proofs.Decimal.{and_true}

above_space : (b : ℕ) → is_seen b ≡ true → is_space b ≡ false
above_space b h = grind (arith, nat_tests)

no_space : (word : List ℕ) → is_word word ≡ true → All (λ b. is_space b ≡ false) word
no_space word h = let all = AllPass-from_list_all is_seen word h in λ k d lt. above_space _ (all k d lt)

pub pieces-spaced : (word : List ℕ) (words : List (List ℕ)) → is_word word ≡ true → list_all is_word words ≡ true
    → pieces (spaced (word ∷ words)) ≡ word ∷ words
pieces-spaced word [] h rest = slice_split_none is_space word (no_space word h)
pieces-spaced word (next ∷ words) h rest =
    let parts = and_true _ _ rest in
    slice_split_at is_space word space (spaced (next ∷ words)) (no_space word h) refl
    ∙ ap (λ t. word ∷ t) (pieces-spaced next words parts.0 parts.1)

-- Walking along a line's words and the fields that they stand for.
use Rattle.std.proofs.Common.{◌≡◌, ℕ, ◌+◌, ◌<◌, List, [], ◌∷◌, ◌++◌, Bool, true, false, Option, Some, None, ◌&&◌, not, eqb, length, drop, get_or, refl, ap, sym, ◌∙◌, arith}
use Rattle.std.specs.List.{list_all}
use Rattle.std.proofs.lemmas.List.{drop_more}
use Rattle.std.proofs.lemmas.Bool.Decides.{nat_tests}
use Rattle.line_rules.specs.declared.rules.Field.{Field}
use Rattle.line_rules.specs.declared.rules.Field.TheVariants.{Name}
use Rattle.line_rules.specs.Rules.{is_empty, front, further, listed, by_word, has_words, all_keep}
use Rattle.line_rules.specs.Walks.{begins_with_word, begins_with, after_field, next_keeps, words_keep}

-- a word for each field
abbrev pub shaped : List Field → List (List ℕ) → Bool
shaped [] [] = true
shaped [] (word ∷ words) = false
shaped (field ∷ fields) [] = false
shaped (field ∷ fields) (word ∷ words) = not (is_empty word) && shaped fields words

and_swap : (a b c : Bool) → (a && (b && c)) ≡ (b && (a && c))
and_swap true b c = refl
and_swap false true c = refl
and_swap false false c = refl

pub and-true : (b : Bool) → (b && true) ≡ b
and-true true = refl
and-true false = refl

pub and_assoc : (a b c : Bool) → ((a && b) && c) ≡ (a && (b && c))
and_assoc true b c = refl
and_assoc false b c = refl

some_counted : (w : List ℕ) (ws : List (List ℕ)) → eqb (length (w ∷ ws)) 0 ≡ false
some_counted w ws = grind (arith, nat_tests)

fields_counted : (f : Field) (fs : List Field) → eqb 0 (length (f ∷ fs)) ≡ false
fields_counted f fs = grind (arith, nat_tests)

one_more : (f : Field) (fs : List Field) (w : List ℕ) (ws : List (List ℕ)) → eqb (length ws) (length fs) ≡ eqb (length (w ∷ ws)) (length (f ∷ fs))
one_more f fs w ws = grind (arith, nat_tests)

and_false : (a b : Bool) → a ≡ false → (a && b) ≡ false
and_false true b h = absurd (cc)
and_false false b h = refl

eqb_zero : (n : ℕ) → eqb 0 (1 + n) ≡ false
eqb_zero n = grind (arith, nat_tests)

-- as many words as fields, and none is empty
shaped_counts : (fields : List Field) (words : List (List ℕ)) → shaped fields words ≡ (eqb (length words) (length fields) && list_all (λ word. not (is_empty word)) words)
shaped_counts [] [] = refl
shaped_counts [] (w ∷ ws) = sym (and_false _ _ (some_counted w ws))
shaped_counts (f ∷ fs) [] = sym (and_false _ _ (fields_counted f fs))
shaped_counts (f ∷ fs) (w ∷ ws) =
    ap (λ b. not (is_empty w) && b) (shaped_counts fs ws)
    ∙ and_swap (not (is_empty w)) (eqb (length ws) (length fs)) (list_all (λ word. not (is_empty word)) ws)
    ∙ ap (λ b. b && (not (is_empty w) && list_all (λ word. not (is_empty word)) ws)) (one_more f fs w ws)

pub shaped_line : (fields : List Field) (words : List (List ℕ)) → (begins_with_word words && shaped fields (drop 1 words)) ≡ has_words fields words
shaped_line fields [] = rw (eqb_zero (length fields)) refl
shaped_line fields (w ∷ ws) =
    let e : length (Name ∷ fields) ≡ 1 + length fields = omega arith in
    shaped_counts (Name ∷ fields) (w ∷ ws)
    ∙ ap (λ n. eqb (length (w ∷ ws)) n && list_all (λ word. not (is_empty word)) (w ∷ ws)) e

shaped_cons : (field : Field) (fields : List Field) (words : List (List ℕ)) → shaped (field ∷ fields) words ≡ (begins_with_word words && shaped fields (drop 1 words))
shaped_cons field fields [] = refl
shaped_cons field fields (w ∷ ws) = refl

two_dropped : (words : List (List ℕ)) → drop 1 (drop 1 words) ≡ drop 2 words
two_dropped [] = refl
two_dropped (w ∷ []) = refl
two_dropped (w ∷ v ∷ ws) = refl

-- the words of one field, and those of the others
shaped_field : (field : Field) (fields : List Field) (words : List (List ℕ)) (next : Option Field)
    → shaped (field ∷ (listed next ++ by_word fields (drop (1 + length (listed next)) words))) words
    ≡ (begins_with next words && shaped (by_word fields (after_field next words)) (after_field next words))
shaped_field field fields words None = shaped_cons field (by_word fields (drop 1 words)) words
shaped_field field fields words (Some next) =
    shaped_cons field (next ∷ by_word fields (drop 2 words)) words
    ∙ ap (λ b. begins_with_word words && b) (shaped_cons next (by_word fields (drop 2 words)) (drop 1 words)
    ∙ ap (λ (ws : List (List ℕ)). begins_with_word (drop 1 words) && shaped (by_word fields (drop 2 words)) ws) (two_dropped words))
    ∙ sym (and_assoc (begins_with_word words) (begins_with_word (drop 1 words)) (shaped (by_word fields (drop 2 words)) (drop 2 words)))

pub shaped_step : (whole : Bool) (fields : List Field) (words : List (List ℕ)) (i : ℕ) → i < length fields
    → ((whole && begins_with (further (get_or fields i Name) (front words)) words)
    && shaped (by_word (drop (i + 1) fields) (after_field (further (get_or fields i Name) (front words)) words)) (after_field (further (get_or fields i Name) (front words)) words))
    ≡ (whole && shaped (by_word (drop i fields) words) words)
shaped_step whole fields words i h =
    let field = get_or fields i Name in
    let next = further field (front words) in
    and_assoc whole (begins_with next words) (shaped (by_word (drop (i + 1) fields) (after_field next words)) (after_field next words))
    ∙ ap (λ b. whole && b) (sym (shaped_field field (drop (i + 1) fields) words next)
    ∙ ap (λ fs. shaped (by_word fs words) words) (sym (drop_more fields i Name h)))

keep_cons : (rule : ℕ) (field : Field) (fields : List Field) (words : List (List ℕ)) → all_keep rule (field ∷ fields) words ≡ (next_keeps rule field words && all_keep rule fields (drop 1 words))
keep_cons rule field [] [] = refl
keep_cons rule field (f ∷ fs) [] = refl
keep_cons rule field fields (w ∷ ws) = refl

keep_field : (rule : ℕ) (field : Field) (fields : List Field) (words : List (List ℕ)) (next : Option Field)
    → all_keep rule (field ∷ (listed next ++ by_word fields (drop (1 + length (listed next)) words))) words
    ≡ (words_keep rule field next words && all_keep rule (by_word fields (after_field next words)) (after_field next words))
keep_field rule field fields words None = keep_cons rule field (by_word fields (drop 1 words)) words
keep_field rule field fields words (Some next) =
    keep_cons rule field (next ∷ by_word fields (drop 2 words)) words
    ∙ ap (λ b. next_keeps rule field words && b) (keep_cons rule next (by_word fields (drop 2 words)) (drop 1 words)
    ∙ ap (λ (ws : List (List ℕ)). next_keeps rule next (drop 1 words) && all_keep rule (by_word fields (drop 2 words)) ws) (two_dropped words))
    ∙ sym (and_assoc (next_keeps rule field words) (next_keeps rule next (drop 1 words)) (all_keep rule (by_word fields (drop 2 words)) (drop 2 words)))

pub keep_step : (kept : Bool) (rule : ℕ) (fields : List Field) (words : List (List ℕ)) (i : ℕ) → i < length fields
    → ((kept && words_keep rule (get_or fields i Name) (further (get_or fields i Name) (front words)) words)
    && all_keep rule (by_word (drop (i + 1) fields) (after_field (further (get_or fields i Name) (front words)) words)) (after_field (further (get_or fields i Name) (front words)) words))
    ≡ (kept && all_keep rule (by_word (drop i fields) words) words)
keep_step kept rule fields words i h =
    let field = get_or fields i Name in
    let next = further field (front words) in
    and_assoc kept (words_keep rule field next words) (all_keep rule (by_word (drop (i + 1) fields) (after_field next words)) (after_field next words))
    ∙ ap (λ b. kept && b) (sym (keep_field rule field (drop (i + 1) fields) words next)
    ∙ ap (λ fs. all_keep rule (by_word fs words) words) (sym (drop_more fields i Name h)))

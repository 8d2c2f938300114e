-- What is asked of the words in front: of one word, and of those of one field.
use Rattle.std.specs.Prelude.{ℕ, List, [], ◌∷◌, Bool, true, false, ◌&&◌, not, drop, Option, Some, None}
use Rattle.line_rules.specs.declared.rules.Field.{Field}
use Rattle.line_rules.specs.Rules.{is_empty, keeps}

-- a word stands in front that isn't empty
abbrev pub begins_with_word : List (List ℕ) → Bool
begins_with_word [] = false
begins_with_word (word ∷ words) = not (is_empty word)

-- and a second one, where the field has a further word
abbrev pub begins_with : Option Field → List (List ℕ) → Bool
begins_with None words = begins_with_word words
begins_with (Some next) words = begins_with_word words && begins_with_word (drop 1 words)

-- what comes after them
abbrev pub after_field : Option Field → List (List ℕ) → List (List ℕ)
after_field None words = drop 1 words
after_field (Some next) words = drop 2 words

-- the word in front, where there is one, is as a rule asks
abbrev pub next_keeps : ℕ → Field → List (List ℕ) → Bool
next_keeps rule field [] = true
next_keeps rule field (word ∷ words) = keeps rule field word

-- and the second one, where the field has a further word
abbrev pub words_keep : ℕ → Field → Option Field → List (List ℕ) → Bool
words_keep rule field None words = next_keeps rule field words
words_keep rule field (Some next) words = next_keeps rule field words && next_keeps rule next (drop 1 words)

-- What a line's rules ask of its bytes, of the row of its name and of its words.
use Rattle.std.proofs.Common.{ℕ, List, Option, is_some}
use Rattle.line_rules.specs.declared.rules.Field.{Field}
use Rattle.line_rules.specs.Rules.{rule_1, rule_2, fields_of, by_word, after_name, unless, lowest_of}

abbrev pub lowest_in : List ℕ → Option (List Field) → List (List ℕ) → Option ℕ
lowest_in line row words =
    unless (rule_1 line) 1 (
    unless (rule_2 line) 2 (
    unless (is_some row) 3 (lowest_of (by_word (fields_of row) (after_name words)) words)))

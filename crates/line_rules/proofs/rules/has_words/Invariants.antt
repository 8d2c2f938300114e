use Rattle.std.proofs.Common.{◌≡◌, ◌&&◌, drop}
use Rattle.usb_words.specs.Field.{pieces}
use Rattle.line_rules.specs.Rules.{by_word, has_words, after_name}
use Rattle.line_rules.proofs.Walks.{shaped}
use Rattle.line_rules.proofs.rules.has_words.Given as goal

-- what was seen, and what is left, decide
abbrev pub invariant-loop-field : goal.invariant-loop-field
invariant-loop-field l =
    (l.whole && shaped (by_word (drop l.field-index l.fields) l.words) l.words)
    ≡ has_words (by_word l.fields (after_name (pieces l.line))) (pieces l.line)

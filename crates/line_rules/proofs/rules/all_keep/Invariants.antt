use Rattle.std.proofs.Common.{◌≡◌, ◌&&◌, drop}
use Rattle.usb_words.specs.Field.{pieces}
use Rattle.line_rules.specs.Rules.{by_word, all_keep, after_name}
use Rattle.line_rules.proofs.rules.all_keep.Given as goal

-- what was seen, and what is left, decide
abbrev pub invariant-loop-field : goal.invariant-loop-field
invariant-loop-field l =
    (l.kept && all_keep l.rule (by_word (drop l.field-index l.fields) l.words) l.words)
    ≡ all_keep l.rule (by_word l.fields (after_name (pieces l.line))) (after_name (pieces l.line))

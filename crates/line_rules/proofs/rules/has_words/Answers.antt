use Rattle.std.proofs.Common.{◌≡◌, ◌&&◌, ◌∙◌}
use Rattle.usb_words.specs.Field.{pieces}
use Rattle.line_rules.specs.Rules.{by_word, after_name}
use Rattle.line_rules.proofs.Walks.{shaped_line, shaped_step}
use Rattle.line_rules.proofs.rules.has_words.Goals as goal
use Rattle.line_rules.proofs.rules.has_words.Goals.{then-whole, else-whole}

pub loop-field-init : goal.loop-field-init
loop-field-init c =
    rw (c.next_is_word-whole.ensures.word, c.next_is_word-whole.ensures.rest, c.of-words.ensures) (shaped_line (by_word c.args.fields.now (after_name (pieces c.args.line.now))) (pieces c.args.line.now))

pub loop-field-preserved : goal.loop-field-preserved
loop-field-preserved c =
    let same : c.if-whole.whole ≡ (c.loop-field.whole && c.next_are_words-there.result)
    = elim c.if-whole.branch [ then-whole w ↦ rw w.if-whole.true w.whole-is | else-whole w ↦ rw w.if-whole.false (w.whole-is ∙ w.if-whole.false) ] in
    rw (same, c.next_are_words-there.ensures.word, c.next_are_words-there.ensures.rest)
    (shaped_step c.loop-field.whole c.args.fields.now c.loop-field.words c.loop-field.field-index c.loop-field-test.true
    ∙ c.loop-field.invariant)

use Rattle.std.proofs.Common.{◌≡◌, ◌&&◌, ◌∙◌}
use Rattle.line_rules.proofs.Walks.{keep_step}
use Rattle.line_rules.proofs.rules.all_keep.Goals as goal
use Rattle.line_rules.proofs.rules.all_keep.Goals.{then-kept, else-kept}

pub loop-field-preserved : goal.loop-field-preserved
loop-field-preserved c =
    let same : c.if-kept.kept ≡ (c.loop-field.kept && c.next_keep-keep.result)
    = elim c.if-kept.branch [ then-kept w ↦ rw w.if-kept.true w.kept-is | else-kept w ↦ rw w.if-kept.false (w.kept-is ∙ w.if-kept.false) ] in
    rw (same, c.next_keep-keep.ensures.word, c.next_keep-keep.ensures.rest)
    (keep_step c.loop-field.kept c.args.rule c.args.fields.now c.loop-field.words c.loop-field.field-index c.loop-field-test.true
    ∙ c.loop-field.invariant)

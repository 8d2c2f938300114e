use Rattle.std.proofs.Common.{arith}
use Rattle.std.proofs.lemmas.Grind.{common_steps}
use Rattle.hid_items.proofs.Rows.{any_other}
use Rattle.hid_items.proofs.reports.Reports.refuses.Goals as goal
use Rattle.hid_items.proofs.reports.Reports.refuses.Goals.{then-not-has, else-not-has}

pub returns-then-id-eq0 : goal.returns-then-id-eq0
returns-then-id-eq0 c = elim c.if-not-has.branch [ then-not-has w ↦ grind (arith, common_steps, any_other) | else-not-has w ↦ grind (arith, common_steps, any_other) ]

use Rattle.hid_items.proofs.Cuts.{items_of-only_cut}
use Rattle.hid_items.proofs.Kept.{good_at_end}
use Rattle.hid_items.proofs.report_lengths.Goals as goal

pub returns-in_err-size-clause-items : goal.returns-in_err-size-clause-items
returns-in_err-size-clause-items c = items_of-only_cut _

pub returns-clause-items : goal.returns-clause-items
returns-clause-items c = items_of-only_cut _

pub returns-clause-lengths : goal.returns-clause-lengths
returns-clause-lengths c =
    good_at_end _ c.loop-prefix.rest.now _ _ _ c.finish.result c.loop-prefix.invariant.0 c.in_default.ensures.cases c.finish.ensures

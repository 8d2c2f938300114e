-- The disk that is found is the first of its name, and whether a slot has it is known.
use Rattle.std.proofs.Common.{sym, ◌∙◌}
use Rattle.usb_edge.proofs.ShelfLemmas.{is_first, taken, free_index_is}
use Rattle.usb_edge.proofs.slots.free_index.Goals as goal

pub returns-then-has_slot : goal.returns-then-has_slot
returns-then-has_slot c =
    taken c.args.name.now c.args.slots.now c.args.disks.now c.in-Some.index
    (is_first c.args.name.now c.args.disks.now c.in-Some.index (sym c.index_of.ensures ∙ c.in-Some.is))
    (sym c.has_slot.ensures ∙ c.if-has_slot.true)

pub returns : goal.returns
returns c =
    free_index_is c.args.name.now c.args.slots.now c.args.disks.now c.in-Some.index (sym c.index_of.ensures ∙ c.in-Some.is) (sym c.has_slot.ensures ∙ c.if-has_slot.false)

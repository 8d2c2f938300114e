-- The slot's disk is the one at its index.
use Rattle.std.proofs.Common.{◌∙◌, ap}
use Rattle.usb_edge.specs.Disk.{block_at}
use Rattle.usb_edge.proofs.ShelfLemmas.{has_block, no_block, slot_has, slot_empty}
use Rattle.usb_edge.proofs.slots.read_block.Goals as goal

pub take_block-requires : goal.take_block-requires
take_block-requires c =
    let has = slot_has c.args.slots.now c.args.disks.now c.args.slot c.in-Some.index c.index-disks-index.result c.requires.in_place c.in-Some.is in
    rw c.as_slice.ensures.value (has_block _ _ c.args.lba has c.requires.block)

pub returns-in-Some : goal.returns-in-Some
returns-in-Some c =
    let has = slot_has c.args.slots.now c.args.disks.now c.args.slot c.in-Some.index c.index-disks-index.result c.requires.in_place c.in-Some.is in
    rw has (c.take_block.ensures ∙ ap (block_at c.args.lba) c.as_slice.ensures.value)

pub returns-in_default : goal.returns-in_default
returns-in_default c =
    absurd (no_block _ c.args.lba (slot_empty c.args.slots.now c.args.disks.now c.args.slot c.in_default.not-Some) c.requires.block)

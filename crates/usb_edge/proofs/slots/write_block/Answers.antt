-- The slot's disk is the one at its index.
use Rattle.std.proofs.Common.{◌∙◌, ap, string_bytes}
use Rattle.usb_edge.specs.declared.slots.MemDisk.{MemDisk}
use Rattle.usb_edge.specs.Disk.{with_block}
use Rattle.usb_edge.proofs.ShelfLemmas.{has_block, no_block, slot_has, slot_empty, slot_written}
use Rattle.usb_edge.proofs.slots.write_block.Goals as goal

pub put_block-requires : goal.put_block-requires
put_block-requires c =
    let disks = c.args.disks.now.items in
    let has = slot_has c.args.slots.now disks c.args.slot c.in-Some.index c.index_mut-disk.result.now c.requires.in_place c.in-Some.is in
    rw c.index_mut-disk.ensures.value (has_block _ _ c.args.lba has c.requires.block)

pub returns-in-Some-clause-written : goal.returns-in-Some-clause-written
returns-in-Some-clause-written c =
    slot_written c.args.slots.now c.args.disks.now.items c.args.slot c.in-Some.index c.args.lba c.args.block.now c.index_mut-disk.result.now _ c.requires.in_place c.in-Some.is
    (ap (λ (d : MemDisk). string_bytes d.name) c.index_mut-disk.ensures.value)
    (c.put_block.ensures ∙ ap (λ (d : MemDisk). with_block c.args.lba c.args.block.now d.bytes.items) c.index_mut-disk.ensures.value)

pub returns-in_default-clause-written : goal.returns-in_default-clause-written
returns-in_default-clause-written c =
    absurd (no_block _ c.args.lba (slot_empty c.args.slots.now c.args.disks.now.items c.args.slot c.in_default.not-Some) c.requires.block)

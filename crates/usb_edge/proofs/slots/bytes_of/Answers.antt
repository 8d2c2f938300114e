-- The disk that is found is the first of its name.
use Rattle.std.proofs.Common.{refl, sym, ◌∙◌, None}
use Rattle.usb_edge.proofs.ShelfLemmas.{is_first, disk_of_held}
use Rattle.usb_edge.proofs.slots.bytes_of.Goals as goal

pub returns-in-Some : goal.returns-in-Some
returns-in-Some c =
    let first = is_first c.args.name.now c.args.disks.now c.in-Some.index (sym c.index_of.ensures ∙ c.in-Some.is) in
    rw (disk_of_held c.args.name.now (λ _. None) c.args.disks.now c.in-Some.index c.index-disks-index.result first, c.as_slice.ensures.value) refl

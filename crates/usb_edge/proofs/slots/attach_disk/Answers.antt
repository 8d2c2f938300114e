-- A disk that no slot had is the slot's.
use Rattle.std.proofs.Common.{ap, Some, ℕ, List, length, arith}
use Rattle.usb_edge.proofs.SlotLemmas.{in_place_set}
use Rattle.usb_edge.proofs.ShelfLemmas.{free_of, slot_given}
use Rattle.usb_edge.proofs.slots.attach_disk.Goals as goal

pub returns-clause-size : goal.returns-clause-size
returns-clause-size c =
    let free = free_of c.args.name.now c.args.slots.now c.args.disks.now c.in-Some.index c.index-disks-index.result c.in-Some.ensures in
    rw free (ap (λ (t : List ℕ). Some (length t)) c.as_slice.ensures.value)

pub returns-clause-given : goal.returns-clause-given
returns-clause-given c =
    slot_given c.args.slots.now c.args.disks.now c.args.slot c.in-Some.index c.args.name.now c.index-disks-index.result c.requires (omega (arith, c.told-slots)) c.in-Some.ensures

pub returns-clause-in_place : goal.returns-clause-in_place
returns-clause-in_place c =
    let free = c.in-Some.ensures in
    in_place_set c.args.slots.now _ c.args.slot c.in-Some.index (omega (arith, c.told-slots)) free.first.within free.unattached c.requires

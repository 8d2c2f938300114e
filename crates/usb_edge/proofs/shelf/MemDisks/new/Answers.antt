-- No slot has a disk yet.
use Rattle.usb_edge.proofs.SlotLemmas.{none_in_place}
use Rattle.usb_edge.proofs.shelf.MemDisks.new.Goals as goal

pub invariant_of-result : goal.invariant_of-result
invariant_of-result c = none_in_place 256 _

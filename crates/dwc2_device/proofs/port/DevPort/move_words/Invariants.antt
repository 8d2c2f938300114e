-- What is still to be moved makes what all makes.
use Rattle.std.proofs.Common.{◌≡◌, ◌+◌, ◌≤◌, [], length}
use Rattle.usb_ring.specs.Ring.{appended}
use Rattle.dwc2_fifo.specs.Words.{word_count}
use Rattle.device_rings.specs.Rings.{out_ring, with_out_ring}
use Rattle.device_relation.specs.Run.{after_words, bytes_read}
use Rattle.access_order.specs.Phase.{serving}
use Rattle.dwc2_device.specs.Driver.{GoesOn}
use Rattle.dwc2_device.specs.Order.{Goes}
use Rattle.dwc2_device.proofs.port.DevPort.move_words.Given as goal

abbrev pub invariant-loop-left : goal.invariant-loop-left
invariant-loop-left g l =
    (after_words (word_count l.left) l.self.bank.table ≡ after_words (word_count l.bytes) l.initial.self.bank.table)
    × (with_out_ring l.rings l.number (appended (out_ring l.rings l.number) (bytes_read l.left l.self.bank.table)) ≡ with_out_ring l.initial.rings l.number (appended (out_ring l.initial.rings l.number) (bytes_read l.bytes l.initial.self.bank.table)))
    × (length (out_ring l.rings l.number).bytes + l.left ≤ (out_ring l.rings l.number).capacity)
    × (l.self.software ≡ l.initial.self.software)
    × (l.initial.self.bank.spare + word_count l.left ≤ l.self.bank.spare + 16)
    × (l.self.bank.due ≡ [])
    × GoesOn l.initial.self.bank l.self.bank
    × Goes (serving 0) (serving 0) l.initial.self l.self

abbrev pub decreases-loop-left : goal.decreases-loop-left
decreases-loop-left g l = l.left

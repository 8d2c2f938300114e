-- What is still to be loaded makes what all makes.
use Rattle.std.proofs.Common.{true, ◌≡◌, ◌+◌, ◌≤◌, []}
use Rattle.dwc2_fifo.specs.Words.{words_of, word_count}
use Rattle.device_rings.specs.Rings.{in_ring}
use Rattle.endpoint_relation.specs.InPackets.{bytes_at}
use Rattle.endpoint_relation.specs.InTable.{words_at}
use Rattle.access_order.specs.Phase.{at, filling}
use Rattle.dwc2_device.specs.Driver.{GoesOn}
use Rattle.dwc2_device.specs.Order.{Goes}
use Rattle.dwc2_device.proofs.port.DevPort.load_words.Given as goal

abbrev pub invariant-loop-left : goal.invariant-loop-left
invariant-loop-left g l =
    (words_at l.number l.self.bank.table (words_of (bytes_at (in_ring l.rings l.number).bytes l.at l.left)) ≡ words_at l.number l.initial.self.bank.table (words_of (bytes_at (in_ring l.rings l.number).bytes l.place l.bytes)))
    × (l.at + l.left ≡ l.place + l.bytes)
    × (l.self.software ≡ l.initial.self.software)
    × (l.initial.self.bank.spare + word_count l.left ≤ l.self.bank.spare + 16)
    × (l.self.bank.due ≡ [])
    × GoesOn l.initial.self.bank l.self.bank
    × Goes (at l.number l.number (filling true)) (at l.number l.number (filling true)) l.initial.self l.self

abbrev pub decreases-loop-left : goal.decreases-loop-left
decreases-loop-left g l = l.left

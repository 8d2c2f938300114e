-- What was read, and what is still to be read, are all.
use Rattle.std.proofs.Common.{◌≡◌, ◌+◌, ◌-◌, ◌*◌, ◌≤◌, [], ◌++◌, length}
use Rattle.dwc2_fifo.specs.Words.{bytes_in}
use Rattle.device_relation.specs.Run.{after_words, words_read}
use Rattle.access_order.specs.Phase.{serving}
use Rattle.dwc2_device.specs.Driver.{GoesOn}
use Rattle.dwc2_device.specs.Order.{Goes}
use Rattle.dwc2_device.proofs.port.DevPort.read_words.Given as goal

abbrev pub invariant-loop : goal.invariant-loop
invariant-loop g l =
    (l.items.items ++ bytes_in (words_read (l.words - l.counter) l.self.bank.table.rx.left) ≡ bytes_in (words_read l.words l.initial.self.bank.table.rx.left))
    × (length l.items.items ≡ 4 * l.counter)
    × (after_words (l.words - l.counter) l.self.bank.table ≡ after_words l.words l.initial.self.bank.table)
    × (l.self.software ≡ l.initial.self.software)
    × (l.initial.self.bank.spare ≤ l.self.bank.spare + l.counter)
    × (l.self.bank.due ≡ [])
    × GoesOn l.initial.self.bank l.self.bank
    × Goes (serving 0) (serving 0) l.initial.self l.self
    × (l.words ≤ 16)

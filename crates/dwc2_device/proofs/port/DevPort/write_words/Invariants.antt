-- What is still to be written makes what all makes.
use Rattle.std.proofs.Common.{◌≡◌, ◌+◌, ◌≤◌, [], false, length}
use Rattle.dwc2_fifo.specs.Words.{words_of, word_count}
use Rattle.device_relation.specs.Run.{words_written}
use Rattle.access_order.specs.Phase.{at, filling}
use Rattle.dwc2_device.specs.Driver.{GoesOn}
use Rattle.dwc2_device.specs.Order.{Goes}
use Rattle.dwc2_device.proofs.port.DevPort.write_words.Given as goal

abbrev pub invariant-loop-rest : goal.invariant-loop-rest
invariant-loop-rest g l =
    (words_written l.self.bank.table (words_of l.rest) ≡ words_written l.initial.self.bank.table (words_of l.packet))
    × (l.self.software ≡ l.initial.self.software)
    × (l.initial.self.bank.spare + word_count (length l.rest) ≤ l.self.bank.spare + 16)
    × (l.self.bank.due ≡ [])
    × GoesOn l.initial.self.bank l.self.bank
    × Goes (at 0 0 (filling false)) (at 0 0 (filling false)) l.initial.self l.self

abbrev pub decreases-loop-rest : goal.decreases-loop-rest
decreases-loop-rest g l = length l.rest

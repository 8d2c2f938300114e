-- A word of the packet.
use Rattle.std.proofs.Common.{false}
use Rattle.access_order.specs.Phase.{at, filling}
use Rattle.access_order.proofs.Leads.{word_leads}
use Rattle.dwc2_device.specs.Order.{loads}
use Rattle.dwc2_device.proofs.Ordered.{wrote}
use Rattle.dwc2_device.proofs.port.DevPort.write_word.Goals as goal

pub returns-clause-order : goal.returns-clause-order
returns-clause-order g c =
    wrote c.args.self.now c.write.new.self (at 0 0 (filling false)) (at 0 0 (filling false)) _ _ c.write.ensures.joint c.write.ensures.told
    (word_leads 0 0 false _ c.args.word (loads c.args.self.now) c.fifo_window.ensures.named)

-- A word of a packet.
use Rattle.dwc2_device.proofs.InOrders.{word_goes}
use Rattle.dwc2_device.proofs.port.DevPort.write_fifo.Goals as goal

pub returns-clause-order : goal.returns-clause-order
returns-clause-order g c =
    word_goes c.args.self.now c.write.new.self c.args.number c.fifo_window.result c.args.word c.requires.known c.fifo_window.ensures.value c.write.ensures.joint c.write.ensures.told

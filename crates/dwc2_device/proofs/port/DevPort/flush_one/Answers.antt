-- The endpoint's FIFO is emptied.
use Rattle.dwc2_device.proofs.ControlBits.{flushes}
use Rattle.dwc2_device.proofs.InOrders.{flush_goes}
use Rattle.dwc2_device.proofs.port.DevPort.flush_one.Goals as goal

pub returns-clause-order : goal.returns-clause-order
returns-clause-order g c =
    flush_goes c.args.self.now c.write.new.self c.args.number _ c.requires.known (flushes c.args.number c.requires.known) c.write.ensures.joint c.write.ensures.told

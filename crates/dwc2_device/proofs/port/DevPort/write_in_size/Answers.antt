-- The size is written.
use Rattle.dwc2_device.proofs.InOrders.{size_goes}
use Rattle.dwc2_device.proofs.port.DevPort.write_in_size.Goals as goal

pub returns-clause-order : goal.returns-clause-order
returns-clause-order g c =
    size_goes c.args.self.now c.write.new.self c.args.number c.dieptsiz.result _ c.requires.known c.dieptsiz.ensures.value c.write.ensures.joint c.write.ensures.told

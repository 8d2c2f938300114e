-- The size is written.
use Rattle.dwc2_device.proofs.OutSteps.{writes_size}
use Rattle.dwc2_device.proofs.port.DevPort.write_one_packet.Goals as goal

pub returns-clause-order : goal.returns-clause-order
returns-clause-order g c = writes_size c.args.self.now c.write.new.self _ c.args.number c.doeptsiz.result _ c.requires.known c.doeptsiz.ensures.named c.write.ensures.joint c.write.ensures.told

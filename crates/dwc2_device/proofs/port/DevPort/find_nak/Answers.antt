-- DOEPCTLx is read.
use Rattle.dwc2_device.proofs.OutSteps.{looks}
use Rattle.dwc2_device.proofs.port.DevPort.find_nak.Goals as goal

pub returns-clause-order : goal.returns-clause-order
returns-clause-order g c = looks c.args.self.now c.read.new.self _ c.args.number c.doepctl.result _ c.doepctl.ensures.named c.read.ensures.joint c.read.ensures.told

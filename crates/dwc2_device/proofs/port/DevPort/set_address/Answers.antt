-- The call keeps what holds of controller, software and rings.
use Rattle.dwc2_device.specs.Driver.{joint}
use Rattle.dwc2_device.proofs.Sound.{address_keeps}
use Rattle.dwc2_device.proofs.port.DevPort.set_address.Goals as goal

pub returns-clause-keeps : goal.returns-clause-keeps
returns-clause-keeps g c = address_keeps (joint c.args.self.now) (joint c.keep_address.new.self) c.args.addr c.requires.address c.keep_address.ensures.joint

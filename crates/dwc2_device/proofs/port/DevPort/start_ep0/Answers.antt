-- The call keeps what holds of controller, software and rings.
use Rattle.dwc2_device.specs.Driver.{joint}
use Rattle.dwc2_device.proofs.Sound.{start_keeps}
use Rattle.dwc2_device.proofs.port.DevPort.start_ep0.Goals as goal

pub returns-clause-keeps : goal.returns-clause-keeps
returns-clause-keeps g c = start_keeps (joint c.args.self.now) (joint c.wait.new.self) c.args.packet.now c.args.last c.requires.free c.requires.heard c.packet_fits.ensures c.wait.ensures.joint

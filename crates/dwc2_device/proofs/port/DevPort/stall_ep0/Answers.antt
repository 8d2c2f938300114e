-- The call keeps what holds of controller, software and rings.
use Rattle.dwc2_device.specs.Driver.{joint}
use Rattle.dwc2_device.proofs.Sound.{stall_keeps}
use Rattle.dwc2_device.proofs.port.DevPort.stall_ep0.Goals as goal

pub returns-clause-keeps : goal.returns-clause-keeps
returns-clause-keeps g c = stall_keeps (joint c.args.self.now) (joint c.stall.new.self) c.requires.free c.stall.ensures.joint

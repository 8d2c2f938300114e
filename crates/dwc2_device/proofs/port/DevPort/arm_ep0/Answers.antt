-- The call keeps what holds of controller, software and rings.
use Rattle.dwc2_device.specs.Driver.{joint}
use Rattle.dwc2_device.proofs.Sound.{arm_keeps}
use Rattle.dwc2_device.proofs.port.DevPort.arm_ep0.Goals as goal

pub returns-clause-keeps : goal.returns-clause-keeps
returns-clause-keeps g c = arm_keeps (joint c.args.self.now) (joint c.arm.new.self) c.requires.free c.requires.heard c.arm.ensures.joint

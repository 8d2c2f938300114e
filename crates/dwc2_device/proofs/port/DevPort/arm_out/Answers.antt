-- Controller, software and rings agree after the call.
use Rattle.dwc2_device.specs.Driver.{joint}
use Rattle.dwc2_device.proofs.Sound.{arm_out_ends}
use Rattle.dwc2_device.proofs.port.DevPort.arm_out.Goals as goal

pub returns-clause-port : goal.returns-clause-port
returns-clause-port g c =
    (arm_out_ends (joint c.args.self.now) (joint c.arm_one.new.self) c.args.rings.now c.args.ep c.requires.sound c.requires.from c.requires.to c.requires.rests c.requires.moves c.requires.class c.requires.room c.arm_one.ensures.joint).port

pub returns-clause-sound : goal.returns-clause-sound
returns-clause-sound g c =
    (arm_out_ends (joint c.args.self.now) (joint c.arm_one.new.self) c.args.rings.now c.args.ep c.requires.sound c.requires.from c.requires.to c.requires.rests c.requires.moves c.requires.class c.requires.room c.arm_one.ensures.joint).sound

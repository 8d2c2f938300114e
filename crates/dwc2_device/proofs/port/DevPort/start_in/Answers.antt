-- Controller, software and rings agree after the call.
use Rattle.dwc2_device.specs.Driver.{joint}
use Rattle.dwc2_device.proofs.Sound.{start_in_ends}
use Rattle.dwc2_device.proofs.port.DevPort.start_in.Goals as goal

pub returns-clause-port : goal.returns-clause-port
returns-clause-port g c =
    (start_in_ends (joint c.args.self.now) (joint c.begin_transfer.new.self) c.args.rings.now c.args.ep c.args.len c.requires.sound c.requires.from c.requires.to c.requires.rests c.requires.class c.requires.held c.begin_transfer.ensures.joint).port

pub returns-clause-sound : goal.returns-clause-sound
returns-clause-sound g c =
    (start_in_ends (joint c.args.self.now) (joint c.begin_transfer.new.self) c.args.rings.now c.args.ep c.args.len c.requires.sound c.requires.from c.requires.to c.requires.rests c.requires.class c.requires.held c.begin_transfer.ensures.joint).sound

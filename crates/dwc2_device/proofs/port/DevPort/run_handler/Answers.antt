-- Controller, software and rings agree after the run.
use Rattle.std.proofs.Common.{ap}
use Rattle.device_rings.specs.Capacities.{capacities_of}
use Rattle.device_relation.specs.Run.{Whole}
use Rattle.dwc2_device.proofs.Capacities.{run_keeps}
use Rattle.std.proofs.Common.{◌∙◌}
use Rattle.device_relation.proofs.Stages.{reset_is}
use Rattle.dwc2_device.specs.Driver.{whole}
use Rattle.dwc2_device.proofs.Sound.{run_ends}
use Rattle.dwc2_device.proofs.port.DevPort.run_handler.Goals as goal

pub returns-clause-port : goal.returns-clause-port
returns-clause-port g c = (run_ends (whole c.args.self.now c.args.rings.now) (whole c.handle.new.self c.handle.new.rings) c.requires.sound c.handle.ensures.whole).port

pub returns-clause-sound : goal.returns-clause-sound
returns-clause-sound g c = (run_ends (whole c.args.self.now c.args.rings.now) (whole c.handle.new.self c.handle.new.rings) c.requires.sound c.handle.ensures.whole).sound

pub returns-clause-wakes : goal.returns-clause-wakes
returns-clause-wakes g c = λ h. c.handle.ensures.wakes (reset_is c.args.self.now.bank.table ∙ h)

pub returns-clause-capacities : goal.returns-clause-capacities
returns-clause-capacities g c = ap (λ (w : Whole). capacities_of w.rings) c.handle.ensures.whole ∙ run_keeps (whole c.args.self.now c.args.rings.now)

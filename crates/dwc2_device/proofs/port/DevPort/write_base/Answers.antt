-- The word has EPENA only with the bits that act.
use Rattle.std.proofs.Common.{arith}
use Rattle.dwc2_device.proofs.OutSteps.{writes_plain, writes_arming}
use Rattle.dwc2_device.proofs.port.DevPort.write_base.Goals as goal

pub returns-clause-plain : goal.returns-clause-plain
returns-clause-plain g c h =
    writes_plain c.args.self.now c.write_out_control.new.self _ c.args.number _ c.requires.known (omega (arith, c.base_word.ensures.few, h)) c.write_out_control.ensures.joint c.write_out_control.ensures.told

pub returns-clause-arms : goal.returns-clause-arms
returns-clause-arms g c = writes_arming c.args.self.now c.write_out_control.new.self _ c.args.number _ c.requires.known c.write_out_control.ensures.joint c.write_out_control.ensures.told

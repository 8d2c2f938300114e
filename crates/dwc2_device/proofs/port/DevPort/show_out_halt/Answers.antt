-- The word has no EPENA.
use Rattle.std.proofs.Common.{arith}
use Rattle.dwc2_device.proofs.OutSteps.{writes_plain}
use Rattle.dwc2_device.proofs.port.DevPort.show_out_halt.Goals as goal

pub returns-clause-order : goal.returns-clause-order
returns-clause-order g c =
    writes_plain c.args.self.now c.write_out_control.new.self _ c.args.number _ c.requires.known (omega (arith, c.base_word.ensures.few)) c.write_out_control.ensures.joint c.write_out_control.ensures.told

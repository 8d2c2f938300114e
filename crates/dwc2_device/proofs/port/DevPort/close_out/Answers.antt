-- The endpoint is disabled, and its interrupts are cleared.
use Rattle.std.proofs.Common.{arith}
use Rattle.dwc2_device.proofs.OutSteps.{writes_plain, clears_plain, keeps_out}
use Rattle.dwc2_device.proofs.port.DevPort.close_out.Goals as goal

pub returns-clause-order : goal.returns-clause-order
returns-clause-order g c =
    keeps_out c.args.self.now c.clear_out_interrupts.new.self c.keep_out.new.self c.args.number _ c.keep_out.ensures (λ start k.
    clears_plain c.write_out_control.new.self c.clear_out_interrupts.new.self _ c.args.number _ c.requires.to c.clear_out_interrupts.ensures.joint c.clear_out_interrupts.ensures.told start
    (writes_plain c.find_over-over.new.self c.write_out_control.new.self _ c.args.number _ c.requires.to (omega arith) c.write_out_control.ensures.joint c.write_out_control.ensures.told start
    (c.find_over-over.ensures.order start k)))

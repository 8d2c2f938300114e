-- Both directions of endpoint 0 are disabled, and the OUT endpoint's interrupts are cleared.
use Rattle.std.proofs.Common.{arith, sym, subst}
use Rattle.access_order.specs.Phase.{serving}
use Rattle.dwc2_device.specs.Driver.{Driver}
use Rattle.dwc2_device.specs.Order.{Goes}
use Rattle.dwc2_device.proofs.OutSteps.{disables_zero, writes_plain, clears_plain}
use Rattle.dwc2_device.proofs.port.DevPort.end_setup.Goals as goal

pub returns-clause-order : goal.returns-clause-order
returns-clause-order g c =
    let old = c.args.self.now in
    let one = c.write_in_control.new.self in
    let two = c.write_out_control.new.self in
    let three = c.clear_out_interrupts.new.self in
    let all : Goes (serving 0) (serving 0) old three = λ start k.
    clears_plain two three _ 0 _ (omega arith) c.clear_out_interrupts.ensures.joint c.clear_out_interrupts.ensures.told start
    (writes_plain one two _ 0 0x48000000 (omega arith) (omega arith) c.write_out_control.ensures.joint c.write_out_control.ensures.told start
    (disables_zero old one _ c.write_in_control.ensures.joint c.write_in_control.ensures.told start k)) in
    subst (λ (d : Driver). Goes (serving 0) (serving 0) old d) (sym c.self.view_is) all

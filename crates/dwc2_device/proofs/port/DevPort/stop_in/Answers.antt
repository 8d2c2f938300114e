-- The endpoint is disabled, its FIFO emptied, and its interrupts cleared.
use Rattle.std.proofs.Common.{ap}
use Rattle.dwc2_regs.specs.declared.TheConstants.{DIEPINT_XFRC}
use Rattle.access_order.specs.Order.{is_set}
use Rattle.dwc2_device.proofs.InOrders.{disable_goes, clear_goes}
use Rattle.dwc2_device.proofs.port.DevPort.stop_in.Goals as goal

pub returns-clause-order : goal.returns-clause-order
returns-clause-order g c b disables start k =
    let n = c.args.number in
    let closed = disable_goes c.args.self.now c.write_in_control.new.self n b c.args.word c.requires.known disables
    c.write_in_control.ensures.joint c.write_in_control.ensures.told in
    let xfrc = ap (λ word. is_set word DIEPINT_XFRC) c.all_in_interrupts.ensures in
    let cleared = clear_goes c.flush_one.new.self c.clear_in_interrupts.new.self 0 n c.all_in_interrupts.result c.requires.known xfrc
    c.clear_in_interrupts.ensures.joint c.clear_in_interrupts.ensures.told in
    cleared start (c.flush_one.ensures.order start (closed start k))

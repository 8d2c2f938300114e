-- XFRC was found, it is cleared, and the next packets are loaded.
use Rattle.std.proofs.Common.{ap, sym, ◌∙◌}
use Rattle.dwc2_regs.specs.declared.TheConstants.{DIEPINT_XFRC}
use Rattle.access_order.specs.Order.{is_set}
use Rattle.access_order.specs.Phase.{at, fits}
use Rattle.dwc2_device.specs.Order.{is_loaded}
use Rattle.dwc2_device.proofs.InOrders.{clear_goes, of_loaded}
use Rattle.dwc2_device.proofs.port.DevPort.serve_transfer.Goals as goal

pub returns-clause-order : goal.returns-clause-order
returns-clause-order g c =
    let n = c.args.number in
    let found = c.find_in_ack.ensures.found (sym c.find_in_ack.ensures.value ∙ c.if-not-find_in_ack.false) in
    let xfrc = ap (λ word. is_set word DIEPINT_XFRC) c.xfrc.ensures in
    let cleared = clear_goes c.find_in_ack.new.self c.clear_in_interrupts.new.self n n c.xfrc.result c.requires.to xfrc
    c.clear_in_interrupts.ensures.joint c.clear_in_interrupts.ensures.told in
    of_loaded c.args.self.now c.go_on-2.new.self n (at n n (fits (is_loaded c.go_on-2.result))) c.args.kept.now c.requires.running c.if-kept-eq0.false
    (λ start k. c.go_on-2.ensures.order start (cleared start (found start k)))

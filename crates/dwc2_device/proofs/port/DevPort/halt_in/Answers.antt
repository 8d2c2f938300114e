-- What is loaded stays.
use Rattle.dwc2_device.proofs.InOrders.{halted}
use Rattle.dwc2_device.proofs.port.DevPort.halt_in.Goals as goal

pub returns-clause-order : goal.returns-clause-order
returns-clause-order g c =
    halted c.args.self.now c.show_in_halt.new.self c.keep_in.new.self c.args.number c.in_kept-kept.result _ c.requires.from c.requires.to c.in_kept-kept.ensures
    c.show_in_halt.ensures.joint c.keep_in.ensures c.show_in_halt.ensures.order

-- No packet is loaded then.
use Rattle.std.proofs.Common.{ap}
use Rattle.dwc2_device.specs.Order.{is_loaded}
use Rattle.dwc2_device.proofs.ControlBits.{disables_closed}
use Rattle.dwc2_device.proofs.InOrders.{ended}
use Rattle.dwc2_device.proofs.port.DevPort.close_in.Goals as goal

pub returns-clause-order : goal.returns-clause-order
returns-clause-order g c =
    ended c.args.self.now c.stop_in.new.self c.keep_in.new.self c.args.number c.unused.result c.requires.from c.requires.to c.keep_in.ensures
    (ap is_loaded c.unused.ensures) (λ b. c.stop_in.ensures.order b disables_closed)

-- No packet is loaded before, and none after.
use Rattle.std.proofs.Common.{refl}
use Rattle.dwc2_device.proofs.InOrders.{begun, none_at_rest}
use Rattle.dwc2_device.proofs.port.DevPort.begin_transfer.Goals as goal

pub returns-clause-order : goal.returns-clause-order
returns-clause-order g c rests =
    let d = c.args.self.now in
    begun d d c.keep_in.new.self c.args.number _ c.requires.from c.requires.to c.keep_in.ensures (none_at_rest d.software c.args.number rests) refl (λ start k. k)

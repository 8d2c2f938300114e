-- DOEPTSIZ0 is written.
use Rattle.std.proofs.Common.{refl, arith}
use Rattle.access_order.specs.Phase.{serving, out_sized}
use Rattle.access_order.proofs.Leads.{out_size_leads}
use Rattle.dwc2_device.specs.Order.{loads}
use Rattle.dwc2_device.proofs.Ordered.{wrote}
use Rattle.dwc2_device.proofs.port.DevPort.write_out_size.Goals as goal

pub returns-clause-order : goal.returns-clause-order
returns-clause-order g c =
    wrote c.args.self.now c.write.new.self (serving 0) (out_sized 0 0) _ _ c.write.ensures.joint c.write.ensures.told
    (out_size_leads 0 0 0xb10 _ (loads c.args.self.now) (omega arith) refl)

pub returns-clause-last : goal.returns-clause-last
returns-clause-last g c =
    wrote c.args.self.now c.write.new.self (serving 1) (out_sized 0 1) _ _ c.write.ensures.joint c.write.ensures.told
    (out_size_leads 1 0 0xb10 _ (loads c.args.self.now) (omega arith) refl)

-- The size comes before EPENA.
use Rattle.std.proofs.Common.{refl, arith}
use Rattle.access_order.specs.Phase.{serving, out_sized}
use Rattle.access_order.proofs.Leads.{arm_leads}
use Rattle.dwc2_device.specs.Order.{loads}
use Rattle.dwc2_device.proofs.Ordered.{wrote, then}
use Rattle.dwc2_device.proofs.port.DevPort.arm_zero.Goals as goal

pub returns-clause-order : goal.returns-clause-order
returns-clause-order g c =
    then c.args.self.now c.write_out_size.new.self c.write_out_control.new.self (serving 0) (out_sized 0 0) (serving 0) c.write_out_size.ensures.order
    (wrote c.write_out_size.new.self c.write_out_control.new.self (out_sized 0 0) (serving 0) _ _ c.write_out_control.ensures.joint c.write_out_control.ensures.told
    (arm_leads 0 0 0xb00 _ (loads c.write_out_size.new.self) (omega arith) refl))

pub returns-clause-last : goal.returns-clause-last
returns-clause-last g c =
    then c.args.self.now c.write_out_size.new.self c.write_out_control.new.self (serving 1) (out_sized 0 1) (serving 1) c.write_out_size.ensures.last
    (wrote c.write_out_size.new.self c.write_out_control.new.self (out_sized 0 1) (serving 1) _ _ c.write_out_control.ensures.joint c.write_out_control.ensures.told
    (arm_leads 1 0 0xb00 _ (loads c.write_out_size.new.self) (omega arith) refl))

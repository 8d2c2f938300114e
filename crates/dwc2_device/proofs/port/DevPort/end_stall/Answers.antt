-- STALL ends in both directions.
use Rattle.std.proofs.Common.{refl, arith}
use Rattle.access_order.specs.Phase.{serving}
use Rattle.access_order.proofs.Leads.{zero_leads, out_leads}
use Rattle.dwc2_device.specs.Order.{loads}
use Rattle.dwc2_device.proofs.Ordered.{wrote, then}
use Rattle.dwc2_device.proofs.port.DevPort.end_stall.Goals as goal

pub returns-in-Stall-clause-order : goal.returns-in-Stall-clause-order
returns-in-Stall-clause-order g c =
    then c.args.self.now c.write_in_control.new.self c.write_out_control.new.self (serving 0) (serving 0) (serving 0)
    (wrote c.args.self.now c.write_in_control.new.self (serving 0) (serving 0) _ _ c.write_in_control.ensures.joint c.write_in_control.ensures.told
    (zero_leads 0x900 0 (loads c.args.self.now) refl (record { epena = refl; cnak = refl })))
    (wrote c.write_in_control.new.self c.write_out_control.new.self (serving 0) (serving 0) _ _ c.write_out_control.ensures.joint c.write_out_control.ensures.told
    (out_leads 0 0 0xb00 0 (loads c.write_in_control.new.self) (omega arith) refl refl))

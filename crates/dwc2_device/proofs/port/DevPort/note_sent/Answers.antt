-- XFRC is cleared, of a packet that was acknowledged.
use Rattle.std.proofs.Common.{refl}
use Rattle.access_order.specs.Phase.{serving, acked}
use Rattle.access_order.proofs.Leads.{noted_leads}
use Rattle.dwc2_device.specs.Order.{loads}
use Rattle.dwc2_device.proofs.Ordered.{wrote, ends}
use Rattle.dwc2_device.proofs.port.DevPort.note_sent.Goals as goal

pub returns-clause-order : goal.returns-clause-order
returns-clause-order g c =
    ends c.args.self.now c.clear_in_interrupts.new.self acked (serving 0) c.self.view_is refl refl
    (wrote c.args.self.now c.clear_in_interrupts.new.self acked (serving 0) _ _ c.clear_in_interrupts.ensures.joint c.clear_in_interrupts.ensures.told
    (noted_leads 0x908 _ (loads c.args.self.now) refl))

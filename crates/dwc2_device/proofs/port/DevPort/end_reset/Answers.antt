-- USBRST is cleared.
use Rattle.std.proofs.Common.{[], ◌∷◌, ◌++◌, ap, ◌∙◌, true}
use Rattle.dwc2_regs.specs.declared.access.TheConstants.{FS4}
use Rattle.access_order.specs.Phase.{clearing, over}
use Rattle.access_order.proofs.Leads.{w, keeps, wake_leads}
use Rattle.device_relation.specs.Software.{unused}
use Rattle.dwc2_device.specs.Order.{loaded_in}
use Rattle.dwc2_device.proofs.Ordered.{unused_loads}
use Rattle.dwc2_device.proofs.port.DevPort.end_reset.Goals as goal

pub returns-clause-order : goal.returns-clause-order
returns-clause-order g c =
    keeps (clearing 4) (over (loaded_in (unused FS4 true).ins)) c.args.self.now.bank.log c.write.new.self.bank.log (w 0x14 0x3000 ∷ [])
    (c.write.ensures.told ∙ ap (λ word. c.args.self.now.bank.log ++ w 0x14 word ∷ []) c.reset_bits.ensures)
    (wake_leads (loaded_in (unused FS4 true).ins) unused_loads)

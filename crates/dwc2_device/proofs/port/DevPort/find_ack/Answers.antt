-- XFRC is read.
use Rattle.std.proofs.Common.{[], ◌∷◌, ◌++◌, refl, ap, ◌∙◌}
use Rattle.dwc2_regs.specs.Register.{diepint}
use Rattle.device_table.specs.Read.{value_read, read_value}
use Rattle.access_order.specs.Phase.{serving, acked}
use Rattle.access_order.proofs.Leads.{r, look_leads, acked_leads}
use Rattle.dwc2_device.specs.Order.{loads}
use Rattle.dwc2_device.proofs.Ordered.{wrote}
use Rattle.dwc2_device.proofs.port.DevPort.find_ack.Goals as goal

pub returns-clause-found : goal.returns-clause-found
returns-clause-found g c h =
    let old = c.args.self.now in
    let told = c.read.ensures.told ∙ ap (λ off. old.bank.log ++ r off (read_value old.bank.table off) ∷ []) c.diepint.ensures.value in
    wrote old c.read.new.self (serving 0) acked _ _ c.read.ensures.joint told (acked_leads 0x908 (value_read old.bank.table (diepint 0)) (loads old) refl h)

pub returns-clause-none : goal.returns-clause-none
returns-clause-none g c =
    let old = c.args.self.now in
    let told = c.read.ensures.told ∙ ap (λ off. old.bank.log ++ r off (read_value old.bank.table off) ∷ []) c.diepint.ensures.value in
    wrote old c.read.new.self (serving 0) (serving 0) _ _ c.read.ensures.joint told (look_leads 0x908 (value_read old.bank.table (diepint 0)) (loads old) refl)

-- USBRST is read.
use Rattle.access_order.specs.Phase.{serving, found}
use Rattle.access_order.proofs.Leads.{reset_leads, no_reset_leads}
use Rattle.dwc2_device.specs.Order.{loads}
use Rattle.dwc2_device.proofs.Ordered.{wrote}
use Rattle.dwc2_device.proofs.port.DevPort.find_reset.Goals as goal

pub returns-clause-found : goal.returns-clause-found
returns-clause-found g c h =
    wrote c.args.self.now c.read.new.self (serving 0) (λ _. found) _ _ c.read.ensures.joint c.read.ensures.told (reset_leads _ (loads c.args.self.now) h)

pub returns-clause-none : goal.returns-clause-none
returns-clause-none g c h =
    wrote c.args.self.now c.read.new.self (serving 0) (serving 0) _ _ c.read.ensures.joint c.read.ensures.told (no_reset_leads _ (loads c.args.self.now) h)

-- DCFG is free.
use Rattle.access_order.specs.Phase.{serving, found}
use Rattle.access_order.proofs.Leads.{keeps, address_leads, no_address_leads}
use Rattle.dwc2_device.specs.Order.{loads}
use Rattle.dwc2_device.proofs.Ordered.{wrote}
use Rattle.dwc2_device.proofs.port.DevPort.write_dcfg.Goals as goal

pub returns-clause-order : goal.returns-clause-order
returns-clause-order g c =
    wrote c.args.self.now c.write.new.self (serving 0) (serving 0) _ _ c.write.ensures.joint c.write.ensures.told (address_leads 0 c.args.word (loads c.args.self.now))

pub returns-clause-found : goal.returns-clause-found
returns-clause-found g c =
    keeps found found c.args.self.now.bank.log c.write.new.self.bank.log _ c.write.ensures.told (no_address_leads c.args.word)

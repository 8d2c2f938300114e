-- The FIFOs are emptied.
use Rattle.access_order.specs.Phase.{closing}
use Rattle.access_order.proofs.Leads.{keeps, flush_all_leads}
use Rattle.dwc2_device.proofs.port.DevPort.flush_all.Goals as goal

pub returns-clause-order : goal.returns-clause-order
returns-clause-order g c =
    keeps (closing 4) (closing 4) c.args.self.now.bank.log c.write.new.self.bank.log _ c.write.ensures.told (flush_all_leads _)

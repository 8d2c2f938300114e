use Rattle.descriptor_groups.proofs.Leads.{leads_belong}
use Rattle.descriptor_groups.proofs.laws.leads_belong.Goals as goal

pub returns : goal.returns
returns c = leads_belong

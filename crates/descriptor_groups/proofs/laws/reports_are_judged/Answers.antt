use Rattle.descriptor_groups.proofs.Reported.{reports_judged}
use Rattle.descriptor_groups.proofs.laws.reports_are_judged.Goals as goal

pub returns : goal.returns
returns c = reports_judged

use Rattle.host_table.proofs.BusLemmas.{detach_disables}
use Rattle.host_table.proofs.laws.detach_disables.Goals as goal

pub returns : goal.returns
returns c = detach_disables

use Rattle.host_table.proofs.AccessLemmas.{accesses_are_listed}
use Rattle.host_table.proofs.laws.accesses_are_listed.Goals as goal

pub returns : goal.returns
returns c = accesses_are_listed

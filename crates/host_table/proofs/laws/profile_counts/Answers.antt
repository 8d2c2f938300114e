use Rattle.host_table.proofs.AccessLemmas.{counts_stay}
use Rattle.host_table.proofs.laws.profile_counts.Goals as goal

pub returns-clause-stay : goal.returns-clause-stay
returns-clause-stay c = counts_stay

use Rattle.host_table.proofs.AccessLemmas.{status_stays}
use Rattle.host_table.proofs.laws.writes_are_kept.Goals as goal

pub returns-clause-status : goal.returns-clause-status
returns-clause-status c = status_stays

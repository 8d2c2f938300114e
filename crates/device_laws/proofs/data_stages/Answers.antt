use Rattle.device_laws.proofs.Stages.{stages, long_is_not_one, some}
use Rattle.device_laws.proofs.data_stages.Goals as goal

pub returns-clause-packets : goal.returns-clause-packets
returns-clause-packets c = stages

pub returns-clause-some : goal.returns-clause-some
returns-clause-some c = some

pub returns-clause-long : goal.returns-clause-long
returns-clause-long c = long_is_not_one

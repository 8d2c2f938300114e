use Rattle.device_pipe.proofs.Refused.{drop_waits}
use Rattle.device_pipe.proofs.laws.drop_all.Goals as goal

pub returns-clause-waits : goal.returns-clause-waits
returns-clause-waits c = drop_waits

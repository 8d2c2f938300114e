use Rattle.endpoint_relation.proofs.InServe.{serves}
use Rattle.endpoint_relation.proofs.in_.handler_runs.Goals as goal

pub returns : goal.returns
returns c = serves

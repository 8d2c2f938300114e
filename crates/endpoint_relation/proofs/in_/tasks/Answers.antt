use Rattle.endpoint_relation.proofs.InCalls.{tasks}
use Rattle.endpoint_relation.proofs.in_.tasks.Goals as goal

pub returns : goal.returns
returns c = tasks

use Rattle.endpoint_relation.proofs.InRun.{runs}
use Rattle.endpoint_relation.proofs.in_.runs.Goals as goal

pub returns : goal.returns
returns c = runs

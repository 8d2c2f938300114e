-- The law.
use Rattle.device_relation.proofs.CallLaws.{run_serves}
use Rattle.device_relation.proofs.laws.handler_run_serves.Goals as goal

pub returns : goal.returns
returns c = run_serves

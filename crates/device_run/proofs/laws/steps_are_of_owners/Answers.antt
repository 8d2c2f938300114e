use Rattle.device_run.proofs.Owners.{steps_are}
use Rattle.device_run.proofs.laws.steps_are_of_owners.Goals as goal

pub returns : goal.returns
returns c = steps_are

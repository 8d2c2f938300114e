use Rattle.device_owners.proofs.Told.{core_serves}
use Rattle.device_owners.proofs.steps.pipes_are_served.Goals as goal

pub returns : goal.returns
returns g c = λ m d. core_serves m d

use Rattle.device_owners.proofs.Idle.{calls_stay_open}
use Rattle.device_owners.proofs.classes.calls_stay_open.Goals as goal

pub returns : goal.returns
returns c = calls_stay_open

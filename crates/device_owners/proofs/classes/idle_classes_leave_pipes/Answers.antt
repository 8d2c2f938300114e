use Rattle.device_owners.proofs.Idle.{idle_task}
use Rattle.device_owners.proofs.classes.idle_classes_leave_pipes.Goals as goal

pub returns : goal.returns
returns g c = λ m d leave. idle_task m d leave

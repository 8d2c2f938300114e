use Rattle.device_owners.proofs.Opens.{stays_open}
use Rattle.device_owners.proofs.steps.open_in_a_session.Goals as goal

pub returns : goal.returns
returns g c = λ m. stays_open m

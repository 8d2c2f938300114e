use Rattle.device_owners.proofs.NoCalls.{steps_alike}
use Rattle.device_owners.proofs.laws.steps_ask_no_calls.Goals as goal

pub returns : goal.returns
returns g c = λ m n alike d. steps_alike m n alike d

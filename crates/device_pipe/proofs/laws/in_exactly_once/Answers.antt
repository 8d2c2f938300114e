use Rattle.device_pipe.proofs.In.{kept_once}
use Rattle.device_pipe.proofs.laws.in_exactly_once.Goals as goal

pub returns : goal.returns
returns c = kept_once

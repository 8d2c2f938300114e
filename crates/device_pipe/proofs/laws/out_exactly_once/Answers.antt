use Rattle.device_pipe.proofs.Out.{taken_once}
use Rattle.device_pipe.proofs.laws.out_exactly_once.Goals as goal

pub returns : goal.returns
returns c = taken_once

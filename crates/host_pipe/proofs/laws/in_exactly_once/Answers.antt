use Rattle.host_pipe.proofs.In.{in_once}
use Rattle.host_pipe.proofs.laws.in_exactly_once.Goals as goal

pub returns : goal.returns
returns c = in_once

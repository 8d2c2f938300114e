use Rattle.host_pipe.proofs.Out.{out_once}
use Rattle.host_pipe.proofs.laws.out_exactly_once.Goals as goal

pub returns : goal.returns
returns c = out_once

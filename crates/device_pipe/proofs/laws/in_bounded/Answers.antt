use Rattle.device_pipe.proofs.Bounded.{bounded}
use Rattle.device_pipe.proofs.laws.in_bounded.Goals as goal

pub returns : goal.returns
returns c = bounded

use Rattle.device_pipe.proofs.Kept.{nothing_lost}
use Rattle.device_pipe.proofs.laws.nothing_lost.Goals as goal

pub returns-clause-run : goal.returns-clause-run
returns-clause-run c = nothing_lost

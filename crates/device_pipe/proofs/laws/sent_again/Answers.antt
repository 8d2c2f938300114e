use Rattle.device_pipe.proofs.Again.{again}
use Rattle.device_pipe.proofs.laws.sent_again.Goals as goal

pub returns : goal.returns
returns c = again

use Rattle.device_pipe.proofs.Cut.{joined, full, single, more}
use Rattle.device_pipe.proofs.laws.packets_of_a_transfer.Goals as goal

pub returns : goal.returns
returns c = record { joined = joined; sizes = full; single = single; more = more }

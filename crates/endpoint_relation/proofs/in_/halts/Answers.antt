use Rattle.endpoint_relation.proofs.InCalls.{clears}
use Rattle.endpoint_relation.proofs.InOpen.{halts}
use Rattle.endpoint_relation.proofs.in_.halts.Goals as goal

pub returns : goal.returns
returns c = record { halts = halts; clears = clears }

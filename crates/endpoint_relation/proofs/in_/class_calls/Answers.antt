use Rattle.endpoint_relation.proofs.InCalls.{starts, drops}
use Rattle.endpoint_relation.proofs.InOpen.{writes}
use Rattle.endpoint_relation.proofs.in_.class_calls.Goals as goal

pub returns : goal.returns
returns c = record { writes = writes; starts = starts; drops = drops }

-- The law.
use Rattle.device_relation.proofs.Events.{starts}
use Rattle.device_relation.proofs.laws.starts.Goals as goal

pub returns : goal.returns
returns c = starts

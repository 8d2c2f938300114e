-- The law.
use Rattle.device_relation.proofs.Events.{bus_keeps}
use Rattle.device_relation.proofs.laws.bus_keeps.Goals as goal

pub returns : goal.returns
returns c = bus_keeps

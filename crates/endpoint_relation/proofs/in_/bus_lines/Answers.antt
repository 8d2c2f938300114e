use Rattle.endpoint_relation.proofs.InOnTable.{bus_at}
use Rattle.endpoint_relation.proofs.in_.bus_lines.Goals as goal

pub returns : goal.returns
returns c = bus_at

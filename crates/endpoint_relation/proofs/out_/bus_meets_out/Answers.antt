-- The law.
use Rattle.endpoint_relation.proofs.OutTables.{out_bus}
use Rattle.endpoint_relation.proofs.out_.bus_meets_out.Goals as goal

pub returns : goal.returns
returns c = out_bus

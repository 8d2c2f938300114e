-- The laws.
use Rattle.endpoint_relation.proofs.OutTables.{out_puts, out_writes}
use Rattle.endpoint_relation.proofs.out_.writes_meet_out.Goals as goal

pub returns-clause-puts : goal.returns-clause-puts
returns-clause-puts c = out_puts

pub returns-clause-writes : goal.returns-clause-writes
returns-clause-writes c = out_writes

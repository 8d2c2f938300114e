-- The laws.
use Rattle.endpoint_relation.proofs.OutTables.{out_lies, out_pops}
use Rattle.endpoint_relation.proofs.out_.fifo_tells_out_packets.Goals as goal

pub returns-clause-apart : goal.returns-clause-apart
returns-clause-apart c = out_lies

pub returns-clause-pops : goal.returns-clause-pops
returns-clause-pops c = out_pops

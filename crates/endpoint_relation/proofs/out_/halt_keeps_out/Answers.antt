-- The laws.
use Rattle.endpoint_relation.proofs.OutCalls.{out_halt, out_clear}
use Rattle.endpoint_relation.proofs.out_.halt_keeps_out.Goals as goal

pub returns-clause-halts : goal.returns-clause-halts
returns-clause-halts c = out_halt

pub returns-clause-clears : goal.returns-clause-clears
returns-clause-clears c = out_clear

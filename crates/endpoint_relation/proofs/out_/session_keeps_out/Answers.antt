-- The laws.
use Rattle.endpoint_relation.proofs.OutCalls.{out_open, out_close}
use Rattle.endpoint_relation.proofs.out_.session_keeps_out.Goals as goal

pub returns-clause-opens : goal.returns-clause-opens
returns-clause-opens c = out_open

pub returns-clause-closes : goal.returns-clause-closes
returns-clause-closes c = out_close

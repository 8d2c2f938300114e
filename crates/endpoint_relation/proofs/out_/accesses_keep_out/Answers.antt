-- The laws.
use Rattle.endpoint_relation.proofs.OutAccesses.{out_serves, out_leaves, out_pops_control, out_reset_serves}
use Rattle.endpoint_relation.proofs.out_.accesses_keep_out.Goals as goal

pub returns-clause-serve : goal.returns-clause-serve
returns-clause-serve c = out_serves

pub returns-clause-leave : goal.returns-clause-leave
returns-clause-leave c = out_leaves

pub returns-clause-controls : goal.returns-clause-controls
returns-clause-controls c = out_pops_control

pub returns-clause-resets : goal.returns-clause-resets
returns-clause-resets c = out_reset_serves

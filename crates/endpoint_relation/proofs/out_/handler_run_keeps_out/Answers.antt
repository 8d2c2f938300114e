-- The laws.
use Rattle.endpoint_relation.proofs.OutRuns.{out_move, out_move_fits, out_idle, out_reset}
use Rattle.endpoint_relation.proofs.out_.handler_run_keeps_out.Goals as goal

pub returns-clause-moves : goal.returns-clause-moves
returns-clause-moves c = out_move

pub returns-clause-fits : goal.returns-clause-fits
returns-clause-fits c = out_move_fits

pub returns-clause-leaves : goal.returns-clause-leaves
returns-clause-leaves c = out_idle

pub returns-clause-resets : goal.returns-clause-resets
returns-clause-resets c = out_reset

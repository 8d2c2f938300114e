use Rattle.std.proofs.Common.{length}
use Rattle.device_run.proofs.run.+accesses_fit.Given as goal

abbrev pub decreases-accesses_fit : goal.decreases-accesses_fit
decreases-accesses_fit l = length l.accesses.now

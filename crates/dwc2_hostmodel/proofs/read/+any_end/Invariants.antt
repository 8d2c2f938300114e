use Rattle.std.proofs.Common.{length}
use Rattle.dwc2_hostmodel.proofs.read.+any_end.Given as goal

abbrev pub decreases-any_end : goal.decreases-any_end
decreases-any_end l = length l.ends.now

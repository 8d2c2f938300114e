use Rattle.std.proofs.Common.{length}
use Rattle.dwc2_hostmodel.proofs.read.+bits_of_ends.Given as goal

abbrev pub decreases-bits_of_ends : goal.decreases-bits_of_ends
decreases-bits_of_ends l = length l.ends.now

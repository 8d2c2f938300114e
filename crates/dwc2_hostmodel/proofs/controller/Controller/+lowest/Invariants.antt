use Rattle.std.proofs.Common.{length}
use Rattle.dwc2_hostmodel.proofs.controller.Controller.+lowest.Given as goal

abbrev pub decreases-lowest : goal.decreases-lowest
decreases-lowest l = length l.channels.now

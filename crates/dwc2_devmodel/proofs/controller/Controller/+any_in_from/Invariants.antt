use Rattle.std.proofs.Common.{length}
use Rattle.dwc2_devmodel.proofs.controller.Controller.+any_in_from.Given as goal

abbrev pub decreases-any_in_from : goal.decreases-any_in_from
decreases-any_in_from l = length l.ends.now

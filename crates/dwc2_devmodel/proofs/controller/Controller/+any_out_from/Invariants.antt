use Rattle.std.proofs.Common.{length}
use Rattle.dwc2_devmodel.proofs.controller.Controller.+any_out_from.Given as goal

abbrev pub decreases-any_out_from : goal.decreases-any_out_from
decreases-any_out_from l = length l.ends.now

use Rattle.std.proofs.Common.{length}
use Rattle.dwc2_devmodel.proofs.controller.Controller.+out_bits_from.Given as goal

abbrev pub decreases-out_bits_from : goal.decreases-out_bits_from
decreases-out_bits_from l = length l.ends.now

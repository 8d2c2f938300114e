use Rattle.std.proofs.Common.{length}
use Rattle.dwc2_devmodel.proofs.controller.Controller.+in_bits_from.Given as goal

abbrev pub decreases-in_bits_from : goal.decreases-in_bits_from
decreases-in_bits_from l = length l.ends.now

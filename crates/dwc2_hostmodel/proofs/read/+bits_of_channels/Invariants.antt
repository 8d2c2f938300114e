use Rattle.std.proofs.Common.{length}
use Rattle.dwc2_hostmodel.proofs.read.+bits_of_channels.Given as goal

abbrev pub decreases-bits_of_channels : goal.decreases-bits_of_channels
decreases-bits_of_channels l = length l.channels.now

use Rattle.std.proofs.Common.{length}
use Rattle.dwc2_hostmodel.proofs.read.+any_channel.Given as goal

abbrev pub decreases-any_channel : goal.decreases-any_channel
decreases-any_channel l = length l.channels.now

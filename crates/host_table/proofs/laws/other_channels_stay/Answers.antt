use Rattle.host_table.proofs.WriteLemmas.{others_stay}
use Rattle.host_table.proofs.laws.other_channels_stay.Goals as goal

pub returns : goal.returns
returns c = others_stay

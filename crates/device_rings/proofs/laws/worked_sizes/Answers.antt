use Rattle.std.proofs.Common.{refl}
use Rattle.device_rings.proofs.laws.worked_sizes.Goals as goal

pub returns : goal.returns
returns c = record { first = refl; second = refl }

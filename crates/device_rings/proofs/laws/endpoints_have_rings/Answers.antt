use Rattle.device_rings.proofs.Found.{have_rings}
use Rattle.device_rings.proofs.laws.endpoints_have_rings.Goals as goal

pub returns : goal.returns
returns c = have_rings

use Rattle.device_world.proofs.Opens.{open_none}
use Rattle.device_world.proofs.laws.classes_open_none.Goals as goal

pub returns : goal.returns
returns c = open_none

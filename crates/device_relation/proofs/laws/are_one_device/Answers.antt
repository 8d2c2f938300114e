-- The law.
use Rattle.device_relation.proofs.CallLaws.{are_one}
use Rattle.device_relation.proofs.laws.are_one_device.Goals as goal

pub returns : goal.returns
returns c = are_one

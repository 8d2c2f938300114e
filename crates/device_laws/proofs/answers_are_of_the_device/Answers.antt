use Rattle.device_laws.proofs.Whole.{answer_is_whole}
use Rattle.device_laws.proofs.answers_are_of_the_device.Goals as goal

pub returns : goal.returns
returns g c = λ world h before line. answer_is_whole world h before line

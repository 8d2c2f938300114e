use Rattle.device_laws.proofs.LastLine.{lacks_at_most_one}
use Rattle.device_laws.proofs.last_newline_may_lack.Goals as goal

pub returns : goal.returns
returns c = lacks_at_most_one

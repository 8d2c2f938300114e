use Rattle.device_text.proofs.Told.{trace_is_told}
use Rattle.device_text.proofs.trace_is_told.Goals as goal

pub returns : goal.returns
returns g c = trace_is_told

use Rattle.device_pipe.proofs.Moves.{clears_sending}
use Rattle.device_pipe.proofs.Refused.{clear_waits}
use Rattle.device_pipe.proofs.laws.clear.Goals as goal

pub returns-clause-next : goal.returns-clause-next
returns-clause-next c = clears_sending

pub returns-clause-waits : goal.returns-clause-waits
returns-clause-waits c = clear_waits

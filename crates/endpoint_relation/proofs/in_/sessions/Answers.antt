use Rattle.endpoint_relation.proofs.InCalls.{closes, begins}
use Rattle.endpoint_relation.proofs.InOpen.{opens}
use Rattle.endpoint_relation.proofs.in_.sessions.Goals as goal

pub returns : goal.returns
returns c = record { opens = opens; closes = closes; begins = begins }

-- Only the write of DIEPINTx shows that XFRC is 0.
use Rattle.access_order.proofs.Lasting.{answering_wants_clear}
use Rattle.access_order.proofs.laws.answering_wants_clear.Goals as goal

pub returns : goal.returns
returns c = answering_wants_clear

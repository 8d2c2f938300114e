-- Nothing is in order once the controller was woken.
use Rattle.access_order.proofs.Lists.{wakes_last}
use Rattle.access_order.proofs.laws.waking_is_last.Goals as goal

pub returns : goal.returns
returns c = wakes_last

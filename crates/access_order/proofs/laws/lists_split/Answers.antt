-- By the front's accesses.
use Rattle.access_order.proofs.Lists.{splits}
use Rattle.access_order.proofs.laws.lists_split.Goals as goal

pub returns : goal.returns
returns c = splits

-- A size is used up by EPENA, and only its write brings one.
use Rattle.access_order.proofs.Lasting.{sizes_between}
use Rattle.access_order.proofs.laws.sizes_come_between.Goals as goal

pub returns : goal.returns
returns c = sizes_between

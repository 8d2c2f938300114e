-- Only the control register's write enables.
use Rattle.access_order.proofs.Lasting.{words_want_enabling}
use Rattle.access_order.proofs.laws.words_want_enabling.Goals as goal

pub returns : goal.returns
returns c = words_want_enabling

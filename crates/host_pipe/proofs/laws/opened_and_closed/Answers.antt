use Rattle.host_pipe.proofs.Still.{closed, in_closed}
use Rattle.host_pipe.proofs.laws.opened_and_closed.Goals as goal

pub returns-clause-out_closed : goal.returns-clause-out_closed
returns-clause-out_closed c = closed

pub returns-clause-in_closed : goal.returns-clause-in_closed
returns-clause-in_closed c = in_closed

use Rattle.host_pipe.proofs.Still.{again, kept, toggle_kept}
use Rattle.host_pipe.proofs.laws.sent_again.Goals as goal

pub returns-clause-it : goal.returns-clause-it
returns-clause-it c = again

pub returns-clause-under_way : goal.returns-clause-under_way
returns-clause-under_way c = kept

pub returns-clause-toggle : goal.returns-clause-toggle
returns-clause-toggle c = toggle_kept

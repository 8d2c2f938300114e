use Rattle.host_table.proofs.AccessLemmas.{reads_leave, reads_take}
use Rattle.host_table.proofs.laws.reads_take_entries.Goals as goal

pub returns-clause-leave : goal.returns-clause-leave
returns-clause-leave c = reads_leave

pub returns-clause-take : goal.returns-clause-take
returns-clause-take c = reads_take

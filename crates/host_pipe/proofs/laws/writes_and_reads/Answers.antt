use Rattle.host_pipe.proofs.Writes.{all, full}
use Rattle.host_pipe.proofs.laws.writes_and_reads.Goals as goal

pub returns-clause-all : goal.returns-clause-all
returns-clause-all c = all

pub returns-clause-full : goal.returns-clause-full
returns-clause-full c = full

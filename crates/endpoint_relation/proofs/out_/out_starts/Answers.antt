-- The law.
use Rattle.endpoint_relation.proofs.OutRuns as runs
use Rattle.endpoint_relation.proofs.out_.out_starts.Goals as goal

pub returns : goal.returns
returns c = runs.out_starts

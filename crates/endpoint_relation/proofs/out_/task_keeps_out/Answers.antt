-- The laws.
use Rattle.endpoint_relation.proofs.OutCalls.{out_note, out_read, out_drop, out_arm}
use Rattle.endpoint_relation.proofs.out_.task_keeps_out.Goals as goal

pub returns-clause-notes : goal.returns-clause-notes
returns-clause-notes c = out_note

pub returns-clause-reads : goal.returns-clause-reads
returns-clause-reads c = out_read

pub returns-clause-drops : goal.returns-clause-drops
returns-clause-drops c = out_drop

pub returns-clause-arms : goal.returns-clause-arms
returns-clause-arms c = out_arm

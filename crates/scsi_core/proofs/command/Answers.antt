-- The laws hold of each outcome of the table, and so of what `work` answered and left.
use Rattle.scsi_core.proofs.CommandLemmas.{laws_of}
use Rattle.scsi_core.proofs.command.Goals as goal

pub returns : goal.returns
returns c =
    let e = c.work.ensures in
    let l = laws_of c.args.unit.now c.work.new.unit c.args.cdb.now c.work.result c.requires e.moves e.leaves in
    record {
      moves = e.moves;
      leaves = e.leaves;
      size = l.size;
      protection = l.protection;
      sound = l.sound;
      movable = l.movable;
      sense = l.sense;
      failure = l.failure;
      allowed = l.allowed;
      cause = l.cause;
      refuses = l.refuses;
      told = l.told;
      attention = l.attention;
    }

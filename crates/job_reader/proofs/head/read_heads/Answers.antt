use Rattle.std.proofs.Common.{sym}
use Rattle.job_reader.proofs.Heads.{heads_more, heads_whole, heads_fail}
use Rattle.job_reader.proofs.head.read_heads.Goals as goal

pub returns-in-Err-clause-heads : goal.returns-in-Err-clause-heads
returns-in-Err-clause-heads g c =
    heads_fail c.in-Err.fault c.heads.draft _ _ _ _ _ _ _ _ _ c.heads.invariant.so_far c.heads.invariant.unfinished c.heads.invariant.count c.in-Err.ensures.head

pub returns-then-is_whole-clause-heads : goal.returns-then-is_whole-clause-heads
returns-then-is_whole-clause-heads g c =
    let more = heads_more c.heads.draft c.in-Ok.line _ _ _ _ _ _ c.heads.invariant.so_far c.in-Ok.ensures.head in
    heads_whole c.add.new.self _ _ _ _ (rw c.add.ensures more) (sym c.if-is_whole.ensures)

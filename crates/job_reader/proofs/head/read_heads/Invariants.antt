use Rattle.std.proofs.Common.{◌≡◌, ◌≤◌, ◌-◌, true, false}
use Rattle.usb_edge.specs.Stream.{IsAtEnd}
use Rattle.job_reader.specs.Draft.{is_whole}
use Rattle.job_reader.specs.Head.{HeadSoFar}
use Rattle.job_reader.proofs.head.read_heads.Given as goal

abbrev pub invariant-heads : goal.invariant-heads
invariant-heads g l = record {
  so_far : HeadSoFar l.draft (g.S.Source.left l.fn.src) (g.S.Source.left l.src) l.fn.lines l.lines;
  unfinished : is_whole l.draft.stage ≡ false;
  ended : l.lines.ended ≡ true → IsAtEnd (g.S.Source.left l.src);
  count : g.S.Source.faults l.fn.src ≤ g.S.Source.faults l.src;
}

abbrev pub decreases-heads : goal.decreases-heads
decreases-heads g l = 12 - l.lines.lines

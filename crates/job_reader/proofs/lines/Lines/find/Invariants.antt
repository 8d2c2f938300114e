use Rattle.std.proofs.Common.{◌≡◌, ℕ, ◌≤◌, ◌+◌, ◌*◌, ◌-◌, Bool, true, false, length}
use Rattle.usb_edge.specs.Stream.{IsAtEnd}
use Rattle.line_rules.specs.Rules.{most_line}
use Rattle.job_reader.specs.Lines.{Finds}
use Rattle.job_reader.proofs.lines.Lines.find.Given as goal

abbrev pub still : Bool → ℕ
still true = 0
still false = 1

abbrev pub invariant-reads : goal.invariant-reads
invariant-reads g l = record {
  finds : Finds (g.S.Source.left l.fn.src) (g.S.Source.left l.src) l.fn.self l.self;
  ended : l.self.ended ≡ true → IsAtEnd (g.S.Source.left l.src);
  count : g.S.Source.faults l.fn.src ≤ g.S.Source.faults l.src;
}

abbrev pub decreases-reads : goal.decreases-reads
decreases-reads g l = 2 * (most_line + 1 - length l.self.reader) + still l.self.ended

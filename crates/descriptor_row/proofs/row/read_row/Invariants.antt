use Rattle.std.proofs.Common.{◌≡◌, ◌+◌, ◌*◌, ◌≤◌, ◌++◌, length, ◌-◌}
use Rattle.std.specs.Prelude.{sum_by}
use Rattle.descriptor_row.specs.Row.{size, row_from, row_of}
use Rattle.descriptor_row.proofs.row.read_row.Given as goal

-- the descriptors so far, and what is left from the place on, are the row
abbrev pub invariant-loop-row : goal.invariant-loop-row
invariant-loop-row l = record {
  low : 9 + 2 * length l.row.items ≤ l.at;
  high : l.at ≤ length l.config;
  ends : l.at ≡ 9 + sum_by size l.row.items;
  same : row_of l.config ≡ l.row.items ++ row_from (length l.config - length l.row.items) l.at l.config;
}

abbrev pub decreases-loop-row : goal.decreases-loop-row
decreases-loop-row l = length l.config - l.at

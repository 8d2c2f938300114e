use Rattle.std.proofs.Common.{◌≡◌, ◌≤◌, ◌++◌, length, drop}
use Rattle.descriptor_row.specs.Kinds.{left_after, left_of}
use Rattle.descriptor_row.proofs.left.left_of.Given as goal

-- what was left so far, and what is left of the rest, is what is left of the row
abbrev pub invariant-loop-d : goal.invariant-loop-d
invariant-loop-d l = record {
  few : length l.left.items ≤ l.d-index;
  same : l.left.items ++ left_after l.setting (drop l.d-index l.row) ≡ left_of l.row;
}

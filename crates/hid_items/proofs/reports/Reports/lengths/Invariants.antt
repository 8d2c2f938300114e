use Rattle.std.proofs.Common.{◌≡◌, map, take}
use Rattle.hid_items.specs.Reports.{length_in}
use Rattle.hid_items.proofs.reports.Reports.lengths.Given as goal

abbrev pub invariant-loop-row : goal.invariant-loop-row
invariant-loop-row l = l.lengths.items ≡ map length_in (take l.row-index l.row-items)

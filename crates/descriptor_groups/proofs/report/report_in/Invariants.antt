use Rattle.std.proofs.Common.{◌≡◌, drop}
use Rattle.std.specs.Prelude.{find}
use Rattle.descriptor_row.specs.Kinds.{interrupt, is_in_of}
use Rattle.descriptor_groups.proofs.report.report_in.Given as goal

-- none so far is the one
abbrev pub invariant-loop-d : goal.invariant-loop-d
invariant-loop-d l = find (is_in_of interrupt) (drop l.d-index l.part) ≡ find (is_in_of interrupt) l.part

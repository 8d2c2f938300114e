use Rattle.std.proofs.Common.{◌≡◌, drop}
use Rattle.std.specs.Prelude.{find}
use Rattle.descriptor_groups.specs.Parts.{is_union}
use Rattle.descriptor_groups.proofs.parts.union_of.Given as goal

-- none so far is the one
abbrev pub invariant-loop-d : goal.invariant-loop-d
invariant-loop-d l = find (is_union l.row l.controlling) (drop l.d-index l.after) ≡ find (is_union l.row l.controlling) l.after

use Rattle.std.proofs.Common.{◌≡◌, drop}
use Rattle.std.specs.Prelude.{find}
use Rattle.descriptor_groups.specs.Groups.{is_lead}
use Rattle.descriptor_groups.proofs.group.lead.Given as goal

-- none so far is the one
abbrev pub invariant-loop-d : goal.invariant-loop-d
invariant-loop-d l = find (is_lead l.class) (drop l.d-index l.row) ≡ find (is_lead l.class) l.row

use Rattle.std.proofs.Common.{◌≡◌, drop}
use Rattle.std.specs.Prelude.{find}
use Rattle.descriptor_groups.specs.Parts.{is_hid_descriptor}
use Rattle.descriptor_groups.proofs.report.hid_descriptor.Given as goal

-- none so far is the one
abbrev pub invariant-loop-d : goal.invariant-loop-d
invariant-loop-d l = find is_hid_descriptor (drop l.d-index l.part) ≡ find is_hid_descriptor l.part

use Rattle.std.proofs.Common.{◌≡◌, ◌++◌, drop}
use Rattle.descriptor_groups.specs.Groups.{owner_of_number}
use Rattle.usb_descriptor.specs.Set.{endpoints_behind, endpoints_in}
use Rattle.usb_descriptor.proofs.endpoint.endpoints_in.Given as goal

-- those so far, and those of the rest, are those of the row
abbrev pub invariant-loop-d : goal.invariant-loop-d
invariant-loop-d l = l.endpoints.items ++ endpoints_behind (owner_of_number l.row) l.owner (drop l.d-index l.row) ≡ endpoints_in l.row

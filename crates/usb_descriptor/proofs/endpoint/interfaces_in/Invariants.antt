use Rattle.std.proofs.Common.{◌≡◌, ◌≤◌, ◌++◌, length, drop, map}
use Rattle.std.specs.Prelude.{filter}
use Rattle.descriptor_row.specs.Kinds.{is_interface}
use Rattle.descriptor_groups.specs.Groups.{owner_of_number}
use Rattle.usb_descriptor.specs.Set.{interface_at, interfaces_in}
use Rattle.usb_descriptor.proofs.endpoint.interfaces_in.Given as goal

-- those so far, and those of the rest, are those of the row
abbrev pub invariant-loop-d : goal.invariant-loop-d
invariant-loop-d l = record {
  few : length l.interfaces.items ≤ l.d-index;
  same : l.interfaces.items ++ map (interface_at (owner_of_number l.row)) (filter is_interface (drop l.d-index l.row)) ≡ interfaces_in l.row;
}

use Rattle.std.proofs.Common.{◌≡◌, drop}
use Rattle.std.specs.Prelude.{find}
use Rattle.usb_descriptor.specs.Set.{is_numbered}
use Rattle.usb_descriptor.proofs.endpoint.interface_owner.Given as goal

-- none so far is the one
abbrev pub invariant-loop-i : goal.invariant-loop-i
invariant-loop-i l = find (is_numbered l.number) (drop l.i-index l.interfaces) ≡ find (is_numbered l.number) l.interfaces

use Rattle.std.proofs.Common.{◌≡◌, drop}
use Rattle.std.specs.Prelude.{find}
use Rattle.usb_descriptor.specs.Set.{is_addressed}
use Rattle.usb_descriptor.proofs.endpoint.endpoint_owner.Given as goal

-- none so far is the one
abbrev pub invariant-loop-e : goal.invariant-loop-e
invariant-loop-e l = find (is_addressed l.addr) (drop l.e-index l.endpoints) ≡ find (is_addressed l.addr) l.endpoints

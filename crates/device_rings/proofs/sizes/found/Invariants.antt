use Rattle.std.proofs.Common.{◌≡◌, drop}
use Rattle.std.specs.Prelude.{find}
use Rattle.usb_descriptor.specs.Set.{is_addressed}
use Rattle.device_rings.proofs.sizes.found.Given as goal

-- none so far is the one
abbrev pub invariant-loop-endpoint : goal.invariant-loop-endpoint
invariant-loop-endpoint l = find (is_addressed l.address) (drop l.endpoint-index l.endpoints) ≡ find (is_addressed l.address) l.endpoints

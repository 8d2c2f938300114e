use Rattle.std.proofs.Common.{◌≡◌, drop}
use Rattle.std.specs.Prelude.{find}
use Rattle.device_owners.specs.Ends.{is_pipe}
use Rattle.usbd_core.proofs.numbers.number_at.Given as goal

-- none so far is the one
abbrev pub invariant-loop-endpoint : goal.invariant-loop-endpoint
invariant-loop-endpoint l = find (is_pipe l.owner l.pipe) (drop l.endpoint-index l.endpoints) ≡ find (is_pipe l.owner l.pipe) l.endpoints

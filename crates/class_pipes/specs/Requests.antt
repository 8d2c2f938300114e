-- What the requests of all classes have in common (USB 2.0, 9.3).
use Rattle.std.specs.Prelude.{ℕ, Bool, ◌==◌, ◌&&◌, if◌then◌else◌}
use Rattle.usb_packet.specs.declared.setup.Setup.{Setup}
use Rattle.usb_pipe.specs.declared.decision.Decision.{Decision}
use Rattle.usb_pipe.specs.declared.decision.Decision.TheVariants as decision

-- a request with this bmRequestType and this bRequest
abbrev pub is_request : ℕ → ℕ → Setup → Bool
is_request kind request setup = (setup.request_type == kind) && (setup.request == request)

-- a request that has to say that its data has so many bytes: this is done, or it is refused
abbrev pub with_length : ℕ → Setup → Decision → Decision
with_length n setup d = if setup.length == n then d else decision.Stall

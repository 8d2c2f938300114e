-- What the device's pipe shows.
use Rattle.std.proofs.Common.{◌∙◌, ap}
use Rattle.device_machine.specs.Pipes.{in_slot}
use Rattle.usbd_core.specs.Device.{Device, port_in}
use Rattle.usbd_core.specs.Shown.{in_shown}
use Rattle.usbd_core.proofs.stack.DevStack.in_phase.Goals as goal

pub returns : goal.returns
returns g c = c.in_phase.ensures ∙ ap (λ (d : Device). in_shown (in_slot (port_in d).pipes c.args.number)) c.self.view_is

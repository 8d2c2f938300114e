-- What the device's pipe shows.
use Rattle.std.proofs.Common.{◌∙◌, ap}
use Rattle.device_machine.specs.Pipes.{out_slot}
use Rattle.usbd_core.specs.Device.{Device, port_in}
use Rattle.usbd_core.specs.Shown.{out_shown}
use Rattle.usbd_core.proofs.stack.DevStack.out_phase.Goals as goal

pub returns : goal.returns
returns g c = c.out_phase.ensures ∙ ap (λ (d : Device). out_shown (out_slot (port_in d).pipes c.args.number)) c.self.view_is

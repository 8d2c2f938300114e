-- What the device's pipe holds.
use Rattle.std.proofs.Common.{◌∙◌, ap, sym, subst, length}
use Rattle.device_machine.specs.Pipes.{out_slot}
use Rattle.usbd_core.specs.Device.{Device, port_in}
use Rattle.usbd_core.specs.Shown.{IsReceiver}
use Rattle.usbd_core.proofs.stack.DevStack.out_held.Goals as goal

pub out_held-requires-clause-receiver : goal.out_held-requires-clause-receiver
out_held-requires-clause-receiver g c = subst (λ (d : Device). IsReceiver (port_in d).pipes d.rings c.args.number) (sym c.self.view_is) c.requires.receiver

pub returns : goal.returns
returns g c = c.out_held.ensures ∙ ap (λ (d : Device). length (out_slot (port_in d).pipes c.args.number).pipe.held) c.self.view_is

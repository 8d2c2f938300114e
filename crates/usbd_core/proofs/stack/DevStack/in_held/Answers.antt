-- What the device's pipe has queued.
use Rattle.std.proofs.Common.{◌∙◌, ap, sym, subst, length}
use Rattle.device_machine.specs.Pipes.{in_slot}
use Rattle.usbd_core.specs.Device.{Device, port_in}
use Rattle.usbd_core.specs.Shown.{IsSender}
use Rattle.usbd_core.proofs.stack.DevStack.in_held.Goals as goal

pub in_held-requires-clause-sender : goal.in_held-requires-clause-sender
in_held-requires-clause-sender g c = subst (λ (d : Device). IsSender (port_in d).pipes d.rings c.args.number) (sym c.self.view_is) c.requires.sender

pub returns : goal.returns
returns g c = c.in_held.ensures ∙ ap (λ (d : Device). length (in_slot (port_in d).pipes c.args.number).pipe.queue) c.self.view_is

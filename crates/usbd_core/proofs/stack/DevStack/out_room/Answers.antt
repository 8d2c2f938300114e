-- The room of the device's pipe.
use Rattle.std.proofs.Common.{◌∙◌, ◌-◌, ap, sym, subst, length}
use Rattle.device_rings.specs.Sizes.{ring_size}
use Rattle.device_machine.specs.Pipes.{out_slot}
use Rattle.usbd_core.specs.Device.{Device, port_in}
use Rattle.usbd_core.specs.Shown.{IsReceiver}
use Rattle.usbd_core.proofs.stack.DevStack.out_room.Goals as goal

pub out_room-requires-clause-receiver : goal.out_room-requires-clause-receiver
out_room-requires-clause-receiver g c = subst (λ (d : Device). IsReceiver (port_in d).pipes d.rings c.args.number) (sym c.self.view_is) c.requires.receiver

pub returns : goal.returns
returns g c = c.out_room.ensures ∙ ap (λ (d : Device). ring_size (out_slot (port_in d).pipes c.args.number).endpoint - length (out_slot (port_in d).pipes c.args.number).pipe.held) c.self.view_is

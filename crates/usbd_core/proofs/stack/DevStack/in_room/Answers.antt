-- The room of the device's pipe.
use Rattle.std.proofs.Common.{◌∙◌, ◌-◌, ap, sym, subst, length}
use Rattle.device_rings.specs.Sizes.{ring_size}
use Rattle.device_machine.specs.Pipes.{in_slot}
use Rattle.usbd_core.specs.Device.{Device, port_in}
use Rattle.usbd_core.specs.Shown.{IsSender}
use Rattle.usbd_core.proofs.stack.DevStack.in_room.Goals as goal

pub in_room-requires-clause-sender : goal.in_room-requires-clause-sender
in_room-requires-clause-sender g c = subst (λ (d : Device). IsSender (port_in d).pipes d.rings c.args.number) (sym c.self.view_is) c.requires.sender

pub returns : goal.returns
returns g c = c.in_room.ensures ∙ ap (λ (d : Device). ring_size (in_slot (port_in d).pipes c.args.number).endpoint - length (in_slot (port_in d).pipes c.args.number).pipe.queue) c.self.view_is

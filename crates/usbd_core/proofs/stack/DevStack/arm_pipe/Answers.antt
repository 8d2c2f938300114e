-- The pipe of the device that is seen is armed.
use Rattle.std.proofs.Common.{◌≡◌, ◌≤◌, ◌-◌, refl, sym, subst, length}
use Rattle.usb_pipe.specs.declared.phase.Phase.TheVariants as phase
use Rattle.usb_pipe.specs.Own.{packet_room}
use Rattle.device_rings.specs.Sizes.{ring_size}
use Rattle.device_machine.specs.Pipes.{out_slot}
use Rattle.device_relation.specs.Port.{Port, armed_at}
use Rattle.usbd_core.specs.Device.{Device, port_in}
use Rattle.usbd_core.specs.Shown.{out_shown, IsReceiver}
use Rattle.usbd_core.proofs.Steps.{becomes_by}
use Rattle.usbd_core.proofs.stack.DevStack.arm_pipe.Goals as goal

pub arm-requires-clause-receiver : goal.arm-requires-clause-receiver
arm-requires-clause-receiver g c = subst (λ (d : Device). IsReceiver (port_in d).pipes d.rings c.args.number) (sym c.self.view_is) c.requires.receiver

pub arm-requires-clause-rests : goal.arm-requires-clause-rests
arm-requires-clause-rests g c = subst (λ (d : Device). out_shown (out_slot (port_in d).pipes c.args.number) ≡ phase.Rest) (sym c.self.view_is) c.requires.rests

pub arm-requires-clause-room : goal.arm-requires-clause-room
arm-requires-clause-room g c = subst (λ (d : Device). packet_room ≤ ring_size (out_slot (port_in d).pipes c.args.number).endpoint - length (out_slot (port_in d).pipes c.args.number).pipe.held) (sym c.self.view_is) c.requires.room

pub returns : goal.returns
returns g c = becomes_by _ c.args.self.now 2 c.arm.new.port c.self.inside.rings (λ (p : Port). armed_at p c.args.number) c.self.view_is c.arm.ensures.port c.arm.ensures.sound refl c.arm.ensures.order c.arm.ensures.spends

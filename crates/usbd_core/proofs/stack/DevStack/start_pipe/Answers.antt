-- A transfer starts on the pipe of the device that is seen.
use Rattle.std.proofs.Common.{◌≡◌, refl, sym, subst}
use Rattle.usb_pipe.specs.declared.phase.Phase.TheVariants as phase
use Rattle.device_machine.specs.Pipes.{in_slot}
use Rattle.device_relation.specs.Port.{Port, started_at}
use Rattle.dwc2_device.specs.Driver.{Has}
use Rattle.usbd_core.specs.Device.{Device, port_in}
use Rattle.usbd_core.specs.Shown.{in_shown, IsSender}
use Rattle.usbd_core.proofs.Steps.{becomes_by, no_access}
use Rattle.usbd_core.proofs.stack.DevStack.start_pipe.Goals as goal

pub start-requires-clause-sender : goal.start-requires-clause-sender
start-requires-clause-sender g c = subst (λ (d : Device). IsSender (port_in d).pipes d.rings c.args.number) (sym c.self.view_is) c.requires.sender

pub start-requires-clause-rests : goal.start-requires-clause-rests
start-requires-clause-rests g c = subst (λ (d : Device). in_shown (in_slot (port_in d).pipes c.args.number) ≡ phase.Rest) (sym c.self.view_is) c.requires.rests

pub returns : goal.returns
returns g c = becomes_by _ c.args.self.now 0 c.start.new.port c.self.inside.rings (λ (p : Port). started_at p c.args.number) c.self.view_is c.start.ensures.port c.start.ensures.sound refl c.start.ensures.order (no_access 0 _ c.start.new.port.bank c.start.ensures.bank (subst (λ (d : Device). Has 0 d.port.bank) (sym c.self.view_is) c.requires.has).1)

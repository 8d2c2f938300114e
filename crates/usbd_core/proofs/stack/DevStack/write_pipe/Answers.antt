-- Bytes are queued on the pipe of the device that is seen.
use Rattle.std.proofs.Common.{◌≡◌, ◌-◌, ◌∙◌, true, length, min, refl, ap, sym, subst}
use Rattle.device_rings.specs.Sizes.{ring_size}
use Rattle.device_machine.specs.Pipes.{in_slot, in_hears}
use Rattle.device_relation.specs.Port.{Port, written_at}
use Rattle.dwc2_device.specs.Driver.{Has}
use Rattle.usbd_core.specs.Device.{Device, port_in}
use Rattle.usbd_core.specs.Shown.{IsSender}
use Rattle.usbd_core.proofs.Steps.{becomes_by, no_access}
use Rattle.usbd_core.proofs.stack.DevStack.write_pipe.Goals as goal

pub write-requires-clause-sender : goal.write-requires-clause-sender
write-requires-clause-sender g c = subst (λ (d : Device). IsSender (port_in d).pipes d.rings c.args.number) (sym c.self.view_is) c.requires.sender

pub write-requires-clause-open : goal.write-requires-clause-open
write-requires-clause-open g c = subst (λ (d : Device). in_hears (in_slot (port_in d).pipes c.args.number) ≡ true) (sym c.self.view_is) c.requires.open

pub returns-clause-took : goal.returns-clause-took
returns-clause-took g c = c.write.ensures.took ∙ ap (λ (d : Device). min (length c.args.bytes.now) (ring_size (in_slot (port_in d).pipes c.args.number).endpoint - length (in_slot (port_in d).pipes c.args.number).pipe.queue)) c.self.view_is

pub returns-clause-becomes : goal.returns-clause-becomes
returns-clause-becomes g c = becomes_by _ c.args.self.now 0 c.self.inside.port c.write.new.rings (λ (p : Port). written_at p c.args.number (ring_size (in_slot p.pipes c.args.number).endpoint) c.args.bytes.now) c.self.view_is c.write.ensures.port c.write.ensures.sound c.write.ensures.capacities (λ start k. k) (no_access 0 _ _ refl (subst (λ (d : Device). Has 0 d.port.bank) (sym c.self.view_is) c.requires.has).1)

pub returns-clause-bank : goal.returns-clause-bank
returns-clause-bank g c = ap (λ (d : Device). d.port.bank) c.self.view_is

-- Bytes are taken from the pipe of the device that is seen.
use Rattle.std.proofs.Common.{◌≡◌, ◌∙◌, true, length, take, refl, ap, sym, subst}
use Rattle.device_machine.specs.Pipes.{out_slot, is_out_open}
use Rattle.device_relation.specs.Port.{Port, read_at}
use Rattle.dwc2_device.specs.Driver.{Has}
use Rattle.usbd_core.specs.Device.{Device, port_in}
use Rattle.usbd_core.specs.Shown.{IsReceiver}
use Rattle.usbd_core.proofs.Steps.{becomes_by, no_access}
use Rattle.usbd_core.proofs.stack.DevStack.read_pipe.Goals as goal

pub read-requires-clause-receiver : goal.read-requires-clause-receiver
read-requires-clause-receiver g c = subst (λ (d : Device). IsReceiver (port_in d).pipes d.rings c.args.number) (sym c.self.view_is) c.requires.receiver

pub read-requires-clause-open : goal.read-requires-clause-open
read-requires-clause-open g c = subst (λ (d : Device). is_out_open (out_slot (port_in d).pipes c.args.number).pipe.phase ≡ true) (sym c.self.view_is) c.requires.open

pub returns-clause-gave : goal.returns-clause-gave
returns-clause-gave g c = c.read.ensures.gave ∙ ap (λ (d : Device). length (take (length c.args.buf.now) (out_slot (port_in d).pipes c.args.number).pipe.held)) c.self.view_is

pub returns-clause-bytes : goal.returns-clause-bytes
returns-clause-bytes g c = c.read.ensures.bytes ∙ ap (λ (d : Device). take (length c.args.buf.now) (out_slot (port_in d).pipes c.args.number).pipe.held) c.self.view_is

pub returns-clause-becomes : goal.returns-clause-becomes
returns-clause-becomes g c = becomes_by _ c.args.self.now 0 c.self.inside.port c.read.new.rings (λ (p : Port). read_at p c.args.number (length c.args.buf.now)) c.self.view_is c.read.ensures.port c.read.ensures.sound c.read.ensures.capacities (λ start k. k) (no_access 0 _ _ refl (subst (λ (d : Device). Has 0 d.port.bank) (sym c.self.view_is) c.requires.has).1)

pub returns-clause-bank : goal.returns-clause-bank
returns-clause-bank g c = ap (λ (d : Device). d.port.bank) c.self.view_is

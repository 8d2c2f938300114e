-- The pipe of the device that is seen is emptied.
use Rattle.std.proofs.Common.{◌≡◌, true, sym, subst}
use Rattle.device_machine.specs.Pipes.{out_slot, is_out_open}
use Rattle.device_relation.specs.Port.{Port, dropped_at}
use Rattle.usbd_core.specs.Device.{Device, port_in}
use Rattle.usbd_core.specs.Shown.{IsReceiver}
use Rattle.usbd_core.proofs.Steps.{becomes_by}
use Rattle.usbd_core.proofs.stack.DevStack.drop_out.Goals as goal

pub drop_out-requires-clause-receiver : goal.drop_out-requires-clause-receiver
drop_out-requires-clause-receiver g c = subst (λ (d : Device). IsReceiver (port_in d).pipes d.rings c.args.number) (sym c.self.view_is) c.requires.receiver

pub drop_out-requires-clause-open : goal.drop_out-requires-clause-open
drop_out-requires-clause-open g c = subst (λ (d : Device). is_out_open (out_slot (port_in d).pipes c.args.number).pipe.phase ≡ true) (sym c.self.view_is) c.requires.open

pub returns : goal.returns
returns g c = becomes_by _ c.args.self.now 3 c.drop_out.new.port c.drop_out.new.rings (λ (p : Port). dropped_at p c.args.number) c.self.view_is c.drop_out.ensures.port c.drop_out.ensures.sound c.drop_out.ensures.capacities c.drop_out.ensures.order c.drop_out.ensures.spends

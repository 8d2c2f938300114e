-- The pipe of the device that is seen is emptied.
use Rattle.std.proofs.Common.{◌≡◌, ◌+◌, true, sym, subst}
use Rattle.device_machine.specs.Pipes.{in_slot, in_hears}
use Rattle.device_relation.specs.Port.{Port, dropped_at}
use Rattle.usbd_core.specs.Device.{Device, port_in}
use Rattle.usbd_core.specs.Shown.{IsSender}
use Rattle.usbd_core.proofs.Steps.{becomes_by}
use Rattle.usbd_core.proofs.stack.DevStack.drop_in.Goals as goal

pub drop_in-requires-clause-sender : goal.drop_in-requires-clause-sender
drop_in-requires-clause-sender g c = subst (λ (d : Device). IsSender (port_in d).pipes d.rings c.args.number) (sym c.self.view_is) c.requires.sender

pub drop_in-requires-clause-open : goal.drop_in-requires-clause-open
drop_in-requires-clause-open g c = subst (λ (d : Device). in_hears (in_slot (port_in d).pipes c.args.number) ≡ true) (sym c.self.view_is) c.requires.open

pub returns : goal.returns
returns g c = becomes_by _ c.args.self.now 3 c.drop_in.new.port c.drop_in.new.rings (λ (p : Port). dropped_at p (128 + c.args.number)) c.self.view_is c.drop_in.ensures.port c.drop_in.ensures.sound c.drop_in.ensures.capacities c.drop_in.ensures.order c.drop_in.ensures.spends

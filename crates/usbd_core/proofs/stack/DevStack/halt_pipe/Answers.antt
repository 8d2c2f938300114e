-- The endpoint of the device that is seen is halted.
use Rattle.std.proofs.Common.{refl}
use Rattle.device_relation.specs.Port.{Port, halted_at}
use Rattle.usbd_core.proofs.Steps.{becomes_by}
use Rattle.usbd_core.proofs.stack.DevStack.halt_pipe.Goals as goal

pub returns : goal.returns
returns g c = becomes_by _ c.args.self.now 1 c.halt.new.port c.self.inside.rings (λ (p : Port). halted_at p c.args.addr) c.self.view_is c.halt.ensures.port c.halt.ensures.sound refl c.halt.ensures.order c.halt.ensures.spends

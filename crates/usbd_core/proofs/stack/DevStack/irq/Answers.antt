-- A handler run, and the end of a session.
use Rattle.std.proofs.Common.{ap}
use Rattle.usbd_core.specs.Device.{Device}
use Rattle.usbd_core.proofs.Ended.{irq_seen}
use Rattle.usbd_core.proofs.stack.DevStack.irq.Goals as goal

pub returns-clause-seen : goal.returns-clause-seen
returns-clause-seen g c =
    let states = g.C.DevClasses.states in
    irq_seen g.C.DevClasses.rules c.args.self.now.set c.args.self.now c.run.new.self c.self.inside.state.configured (states c.args.classes.now) (states c.end_session.new.classes)
    (ap (λ (d : Device). d.state.configured) c.self.view_is) c.run.ensures.core c.end_session.ensures

-- Endpoint 0 and the notes of the pipes, and then the classes.
use Rattle.std.proofs.Common.{◌∙◌, arith}
use Rattle.usbd_core.proofs.Worked.{has_left, leaves_on, task_seen}
use Rattle.usbd_core.proofs.stack.DevStack.task.Goals as goal

pub returns-clause-seen : goal.returns-clause-seen
returns-clause-seen g c =
    let states = g.C.DevClasses.states in
    task_seen g.C.DevClasses.rules c.args.self.now c.work_core.new.self c.work_classes.new.self
    (states c.args.classes.now) (states c.work_core.new.classes) (states c.work_classes.new.classes)
    c.work_core.ensures.leaves.1 c.work_core.ensures.seen c.work_classes.ensures.seen

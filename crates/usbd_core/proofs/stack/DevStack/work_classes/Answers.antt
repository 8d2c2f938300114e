-- Each class makes its step, one after another.
use Rattle.usbd_core.proofs.Worked.{leaves_on, all_worked}
use Rattle.usbd_core.proofs.stack.DevStack.work_classes.Goals as goal

pub returns-clause-seen : goal.returns-clause-seen
returns-clause-seen g c =
    let states = g.C.DevClasses.states in
    all_worked g.C.DevClasses.rules c.args.self.now c.work_class.new.self c.work_class-2.new.self c.work_class-3.new.self c.work_class-4.new.self
    (states c.args.classes.now) (states c.work_class.new.classes) (states c.work_class-2.new.classes) (states c.work_class-3.new.classes) (states c.work_class-4.new.classes)
    c.work_class.ensures.leaves c.work_class-2.ensures.leaves c.work_class-3.ensures.leaves
    c.work_class.ensures.seen c.work_class-2.ensures.seen c.work_class-3.ensures.seen c.work_class-4.ensures.seen

pub returns-clause-leaves : goal.returns-clause-leaves
returns-clause-leaves g c =
    leaves_on 108 36 c.args.self.now c.work_class-3.new.self c.work_class-4.new.self
    (leaves_on 72 36 c.args.self.now c.work_class-2.new.self c.work_class-3.new.self
    (leaves_on 36 36 c.args.self.now c.work_class.new.self c.work_class-2.new.self c.work_class.ensures.leaves c.work_class-2.ensures.leaves)
    c.work_class-3.ensures.leaves)
    c.work_class-4.ensures.leaves

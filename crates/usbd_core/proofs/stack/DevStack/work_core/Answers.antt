-- Endpoint 0, and then the notes of the pipes.
use Rattle.std.proofs.Common.{◌∙◌}
use Rattle.usbd_core.proofs.Worked.{core_seen, core_leaves}
use Rattle.usbd_core.proofs.stack.DevStack.work_core.Goals as goal

pub returns-clause-seen : goal.returns-clause-seen
returns-clause-seen g c =
    let states = g.C.DevClasses.states in
    core_seen g.C.DevClasses.rules c.args.self.now c.work_stage.new.self c.work_request.new.self c.work_pipes.new.self
    (states c.args.classes.now) (states c.work_stage.new.classes) (states c.work_request.new.classes) (states c.tell_notes.new.classes)
    c.work_stage.ensures.leaves.2 (c.work_request.ensures.leaves.2 ∙ c.work_stage.ensures.leaves.2)
    c.work_stage.ensures.seen c.work_request.ensures.seen c.tell_notes.ensures c.work_pipes.ensures.core

pub returns-clause-leaves : goal.returns-clause-leaves
returns-clause-leaves g c =
    let states = g.C.DevClasses.states in
    core_leaves g.C.DevClasses.rules c.args.self.now c.work_stage.new.self c.work_request.new.self c.work_pipes.new.self
    (states c.args.classes.now) (states c.tell_notes.new.classes)
    c.requires.whole c.work_stage.ensures.leaves c.work_request.ensures.leaves c.work_pipes.ensures.agrees c.work_pipes.ensures.set c.work_pipes.ensures.order c.work_pipes.ensures.bank
    c.work_pipes.ensures.capacities (returns-clause-seen g c)

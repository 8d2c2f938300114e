-- What the view holds when it ends is the stack.
use Rattle.std.proofs.Common.{◌≡◌, rules}
use Rattle.usbd_core.proofs.Worked.{class_seen, class_leaves}
use Rattle.usbd_core.proofs.stack.DevStack.work_class.Goals as goal

pub returns-clause-seen : goal.returns-clause-seen
returns-clause-seen g c =
    let from = c.pipes-pipes.result in
    let to = c.work.new.pipes in
    let same : to.stack.now ≡ c.self-1.given.0 = search rules in
    class_seen g.C.DevClasses.rules c.args.owner from.owner to.owner c.args.self.now from.stack.now to.stack.now c.self-1.given.0 (g.C.DevClasses.states c.args.classes.now) (g.C.DevClasses.states c.work.new.self)
    c.pipes-pipes.ensures.owner c.work.ensures.beside.1 c.pipes-pipes.ensures.lends.1 same c.work.ensures.beside.5 c.work.ensures.pipes c.work.ensures.states

pub returns-clause-leaves : goal.returns-clause-leaves
returns-clause-leaves g c =
    let from = c.pipes-pipes.result in
    let to = c.work.new.pipes in
    let same : to.stack.now ≡ c.self-1.given.0 = search rules in
    class_leaves c.args.owner from.owner to.owner to.sends to.receives to.notifies c.args.self.now from.stack.now to.stack.now c.self-1.given.0
    c.pipes-pipes.ensures.owner c.pipes-pipes.ensures.lends.1 same c.work.ensures.beside.5 c.work.ensures.sound c.work.ensures.spends

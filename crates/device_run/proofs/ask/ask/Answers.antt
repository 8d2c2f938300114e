-- What the view holds when it ends is the stack.
use Rattle.std.proofs.Common.{◌≡◌, ◌∙◌, rules}
use Rattle.usb_pipe.specs.Own.{Own}
use Rattle.usb_pipe.specs.Said.{reply_with}
use Rattle.usb_pipe.specs.Classes.{class_at, with_class}
use Rattle.device_owners.specs.Lines.{call_owner}
use Rattle.device_world.specs.World.{calls}
use Rattle.usbd_core.specs.View.{own_of}
use Rattle.device_run.proofs.Lines.{asked_same, own_same}
use Rattle.device_run.proofs.ask.ask.Goals as goal

pub returns-clause-reply : goal.returns-clause-reply
returns-clause-reply c =
    let o = call_owner c.args.call.now in
    asked_same (λ (own : Own). (calls o).reply (class_at c.args.classes.now o) own c.args.call.now) o c.pipes-pipes.result.owner c.args.stack.now c.pipes-pipes.result.stack.now
    (reply_with c.answer.result c.answer.new.bytes.items) (c.pipes-pipes.ensures.owner ∙ c.owner_of.ensures) c.pipes-pipes.ensures.lends.1 c.answer.ensures.reply

pub returns-clause-pipes : goal.returns-clause-pipes
returns-clause-pipes c =
    let o = call_owner c.args.call.now in
    let from = c.pipes-pipes.result in
    let to = c.answer.new.pipes in
    let same : to.stack.now ≡ c.stack-1.given.0 = search rules in
    let after = λ (own : Own). (calls o).pipes_after_call (class_at c.args.classes.now o) own c.args.call.now in
    own_same o to.owner to.stack.now c.stack-1.given.0 (after (own_of o c.args.stack.now)) same (c.answer.ensures.beside.1 ∙ c.pipes-pipes.ensures.owner ∙ c.owner_of.ensures)
    (asked_same after o from.owner c.args.stack.now from.stack.now (own_of to.owner to.stack.now) (c.pipes-pipes.ensures.owner ∙ c.owner_of.ensures) c.pipes-pipes.ensures.lends.1 c.answer.ensures.pipes)

pub returns-clause-classes : goal.returns-clause-classes
returns-clause-classes c =
    let o = call_owner c.args.call.now in
    asked_same (λ (own : Own). with_class c.args.classes.now o ((calls o).after_call (class_at c.args.classes.now o) own c.args.call.now)) o c.pipes-pipes.result.owner c.args.stack.now
    c.pipes-pipes.result.stack.now c.answer.new.self (c.pipes-pipes.ensures.owner ∙ c.owner_of.ensures) c.pipes-pipes.ensures.lends.1 c.answer.ensures.states

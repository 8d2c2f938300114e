-- The owner's pipe is emptied.
use Rattle.std.proofs.Common.{refl}
use Rattle.usbd_core.proofs.Views.{sends, receiver_of, sender_of, receiver_opens, sender_opens, drop_out_step, drop_in_step}
use Rattle.usbd_core.proofs.view.DevViewDevPipes.drop_all.Goals as goal

pub drop_out-requires-clause-receiver : goal.drop_out-requires-clause-receiver
drop_out-requires-clause-receiver g c = receiver_of c.args.self.now.owner c.args.self.now.sends c.args.self.now.receives c.args.self.now.notifies c.args.self.now.stack.now c.requires.sound

pub drop_out-requires-clause-open : goal.drop_out-requires-clause-open
drop_out-requires-clause-open g c = receiver_opens c.args.self.now.owner c.args.self.now.sends c.args.self.now.receives c.args.self.now.notifies c.args.pipe c.args.self.now.stack.now c.requires.sound c.if-pipe-eq1.true c.requires.open

pub returns-then-pipe-eq1-clause-pipes : goal.returns-then-pipe-eq1-clause-pipes
returns-then-pipe-eq1-clause-pipes g c = (drop_out_step c.args.self.now.owner c.args.self.now.sends c.args.self.now.receives c.args.self.now.notifies 3 c.args.pipe c.args.self.now.stack.now c.drop_out.new.self c.requires.sound c.if-pipe-eq1.true c.requires.open c.drop_out.ensures).pipes

pub returns-then-pipe-eq1-clause-beside : goal.returns-then-pipe-eq1-clause-beside
returns-then-pipe-eq1-clause-beside g c = (refl, refl, refl, refl, refl, (drop_out_step c.args.self.now.owner c.args.self.now.sends c.args.self.now.receives c.args.self.now.notifies 3 c.args.pipe c.args.self.now.stack.now c.drop_out.new.self c.requires.sound c.if-pipe-eq1.true c.requires.open c.drop_out.ensures).beside)

pub returns-then-pipe-eq1-clause-sound : goal.returns-then-pipe-eq1-clause-sound
returns-then-pipe-eq1-clause-sound g c = (drop_out_step c.args.self.now.owner c.args.self.now.sends c.args.self.now.receives c.args.self.now.notifies 3 c.args.pipe c.args.self.now.stack.now c.drop_out.new.self c.requires.sound c.if-pipe-eq1.true c.requires.open c.drop_out.ensures).is

pub drop_in-requires-clause-sender : goal.drop_in-requires-clause-sender
drop_in-requires-clause-sender g c = sender_of c.args.self.now.owner c.args.self.now.sends c.args.self.now.receives c.args.self.now.notifies c.args.pipe c.sender-number.result c.args.self.now.stack.now c.requires.sound (sends c.args.pipe c.requires.pipe c.if-pipe-eq1.false) c.sender-number.ensures

pub drop_in-requires-clause-open : goal.drop_in-requires-clause-open
drop_in-requires-clause-open g c = sender_opens c.args.self.now.owner c.args.self.now.sends c.args.self.now.receives c.args.self.now.notifies c.args.pipe c.sender-number.result c.args.self.now.stack.now c.requires.sound (sends c.args.pipe c.requires.pipe c.if-pipe-eq1.false) c.sender-number.ensures c.requires.open

pub returns-clause-pipes : goal.returns-clause-pipes
returns-clause-pipes g c = (drop_in_step c.args.self.now.owner c.args.self.now.sends c.args.self.now.receives c.args.self.now.notifies 3 c.args.pipe c.sender-number.result c.args.self.now.stack.now c.drop_in.new.self c.requires.sound (sends c.args.pipe c.requires.pipe c.if-pipe-eq1.false) c.sender-number.ensures c.requires.open c.drop_in.ensures).pipes

pub returns-clause-beside : goal.returns-clause-beside
returns-clause-beside g c = (refl, refl, refl, refl, refl, (drop_in_step c.args.self.now.owner c.args.self.now.sends c.args.self.now.receives c.args.self.now.notifies 3 c.args.pipe c.sender-number.result c.args.self.now.stack.now c.drop_in.new.self c.requires.sound (sends c.args.pipe c.requires.pipe c.if-pipe-eq1.false) c.sender-number.ensures c.requires.open c.drop_in.ensures).beside)

pub returns-clause-sound : goal.returns-clause-sound
returns-clause-sound g c = (drop_in_step c.args.self.now.owner c.args.self.now.sends c.args.self.now.receives c.args.self.now.notifies 3 c.args.pipe c.sender-number.result c.args.self.now.stack.now c.drop_in.new.self c.requires.sound (sends c.args.pipe c.requires.pipe c.if-pipe-eq1.false) c.sender-number.ensures c.requires.open c.drop_in.ensures).is

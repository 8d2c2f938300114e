-- The endpoint of the owner's pipe is halted.
use Rattle.std.proofs.Common.{◌≤◌, refl, arith}
use Rattle.usbd_core.proofs.Views.{sends, sender_of, halt_out_step, halt_in_step}
use Rattle.usbd_core.proofs.view.DevViewDevPipes.halt.Goals as goal

pub returns-then-pipe-eq1-clause-pipes : goal.returns-then-pipe-eq1-clause-pipes
returns-then-pipe-eq1-clause-pipes g c = (halt_out_step c.args.self.now.owner c.args.self.now.sends c.args.self.now.receives c.args.self.now.notifies 1 c.args.pipe c.args.self.now.stack.now c.halt_pipe.new.self c.requires.sound c.if-pipe-eq1.true c.requires.open c.halt_pipe.ensures).pipes

pub returns-then-pipe-eq1-clause-beside : goal.returns-then-pipe-eq1-clause-beside
returns-then-pipe-eq1-clause-beside g c = (refl, refl, refl, refl, refl, (halt_out_step c.args.self.now.owner c.args.self.now.sends c.args.self.now.receives c.args.self.now.notifies 1 c.args.pipe c.args.self.now.stack.now c.halt_pipe.new.self c.requires.sound c.if-pipe-eq1.true c.requires.open c.halt_pipe.ensures).beside)

pub returns-then-pipe-eq1-clause-sound : goal.returns-then-pipe-eq1-clause-sound
returns-then-pipe-eq1-clause-sound g c = (halt_out_step c.args.self.now.owner c.args.self.now.sends c.args.self.now.receives c.args.self.now.notifies 1 c.args.pipe c.args.self.now.stack.now c.halt_pipe.new.self c.requires.sound c.if-pipe-eq1.true c.requires.open c.halt_pipe.ensures).is

pub overflow_add-number : goal.overflow_add-number
overflow_add-number g c = let to : c.sender-number.result ≤ 3 = (sender_of c.args.self.now.owner c.args.self.now.sends c.args.self.now.receives c.args.self.now.notifies c.args.pipe c.sender-number.result c.args.self.now.stack.now c.requires.sound (sends c.args.pipe c.requires.pipe c.if-pipe-eq1.false) c.sender-number.ensures).to in omega (arith, to)

pub returns-clause-pipes : goal.returns-clause-pipes
returns-clause-pipes g c = (halt_in_step c.args.self.now.owner c.args.self.now.sends c.args.self.now.receives c.args.self.now.notifies 1 c.args.pipe c.sender-number.result c.args.self.now.stack.now c.halt_pipe-2.new.self c.requires.sound (sends c.args.pipe c.requires.pipe c.if-pipe-eq1.false) c.sender-number.ensures c.requires.open c.halt_pipe-2.ensures).pipes

pub returns-clause-beside : goal.returns-clause-beside
returns-clause-beside g c = (refl, refl, refl, refl, refl, (halt_in_step c.args.self.now.owner c.args.self.now.sends c.args.self.now.receives c.args.self.now.notifies 1 c.args.pipe c.sender-number.result c.args.self.now.stack.now c.halt_pipe-2.new.self c.requires.sound (sends c.args.pipe c.requires.pipe c.if-pipe-eq1.false) c.sender-number.ensures c.requires.open c.halt_pipe-2.ensures).beside)

pub returns-clause-sound : goal.returns-clause-sound
returns-clause-sound g c = (halt_in_step c.args.self.now.owner c.args.self.now.sends c.args.self.now.receives c.args.self.now.notifies 1 c.args.pipe c.sender-number.result c.args.self.now.stack.now c.halt_pipe-2.new.self c.requires.sound (sends c.args.pipe c.requires.pipe c.if-pipe-eq1.false) c.sender-number.ensures c.requires.open c.halt_pipe-2.ensures).is

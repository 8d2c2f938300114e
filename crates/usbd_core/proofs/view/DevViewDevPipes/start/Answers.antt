-- A transfer starts on the owner's pipe.
use Rattle.std.proofs.Common.{refl}
use Rattle.usbd_core.proofs.Views.{sender_of, start_step}
use Rattle.usbd_core.proofs.view.DevViewDevPipes.start.Goals as goal

pub start_pipe-requires-clause-sender : goal.start_pipe-requires-clause-sender
start_pipe-requires-clause-sender g c = sender_of c.args.self.now.owner c.args.self.now.sends c.args.self.now.receives c.args.self.now.notifies c.args.pipe c.sender-number.result c.args.self.now.stack.now c.requires.sound c.requires.pipe c.sender-number.ensures

pub returns-clause-pipes : goal.returns-clause-pipes
returns-clause-pipes g c = (start_step c.args.self.now.owner c.args.self.now.sends c.args.self.now.receives c.args.self.now.notifies 0 c.args.pipe c.sender-number.result c.args.self.now.stack.now c.start_pipe.new.self c.requires.sound c.requires.pipe c.sender-number.ensures c.requires.rests c.start_pipe.ensures).pipes

pub returns-clause-beside : goal.returns-clause-beside
returns-clause-beside g c = (refl, refl, refl, refl, refl, (start_step c.args.self.now.owner c.args.self.now.sends c.args.self.now.receives c.args.self.now.notifies 0 c.args.pipe c.sender-number.result c.args.self.now.stack.now c.start_pipe.new.self c.requires.sound c.requires.pipe c.sender-number.ensures c.requires.rests c.start_pipe.ensures).beside)

pub returns-clause-sound : goal.returns-clause-sound
returns-clause-sound g c = (start_step c.args.self.now.owner c.args.self.now.sends c.args.self.now.receives c.args.self.now.notifies 0 c.args.pipe c.sender-number.result c.args.self.now.stack.now c.start_pipe.new.self c.requires.sound c.requires.pipe c.sender-number.ensures c.requires.rests c.start_pipe.ensures).is

-- Bytes are taken from the owner's pipe.
use Rattle.std.proofs.Common.{refl, length}
use Rattle.usbd_core.proofs.Views.{receiver_of, receiver_opens, read_step}
use Rattle.usbd_core.proofs.view.DevViewDevPipes.read.Goals as goal

pub read_pipe-requires-clause-receiver : goal.read_pipe-requires-clause-receiver
read_pipe-requires-clause-receiver g c = receiver_of c.args.self.now.owner c.args.self.now.sends c.args.self.now.receives c.args.self.now.notifies c.args.self.now.stack.now c.requires.sound

pub read_pipe-requires-clause-open : goal.read_pipe-requires-clause-open
read_pipe-requires-clause-open g c = receiver_opens c.args.self.now.owner c.args.self.now.sends c.args.self.now.receives c.args.self.now.notifies c.args.pipe c.args.self.now.stack.now c.requires.sound c.requires.pipe c.requires.open

pub returns-clause-pipes : goal.returns-clause-pipes
returns-clause-pipes g c = (read_step c.args.self.now.owner c.args.self.now.sends c.args.self.now.receives c.args.self.now.notifies 0 (length c.args.buf.now) c.args.self.now.stack.now c.read_pipe.new.self c.requires.sound (receiver_opens c.args.self.now.owner c.args.self.now.sends c.args.self.now.receives c.args.self.now.notifies c.args.pipe c.args.self.now.stack.now c.requires.sound c.requires.pipe c.requires.open) c.read_pipe.ensures.becomes).pipes

pub returns-clause-beside : goal.returns-clause-beside
returns-clause-beside g c = (refl, refl, refl, refl, refl, (read_step c.args.self.now.owner c.args.self.now.sends c.args.self.now.receives c.args.self.now.notifies 0 (length c.args.buf.now) c.args.self.now.stack.now c.read_pipe.new.self c.requires.sound (receiver_opens c.args.self.now.owner c.args.self.now.sends c.args.self.now.receives c.args.self.now.notifies c.args.pipe c.args.self.now.stack.now c.requires.sound c.requires.pipe c.requires.open) c.read_pipe.ensures.becomes).beside)

pub returns-clause-sound : goal.returns-clause-sound
returns-clause-sound g c = (read_step c.args.self.now.owner c.args.self.now.sends c.args.self.now.receives c.args.self.now.notifies 0 (length c.args.buf.now) c.args.self.now.stack.now c.read_pipe.new.self c.requires.sound (receiver_opens c.args.self.now.owner c.args.self.now.sends c.args.self.now.receives c.args.self.now.notifies c.args.pipe c.args.self.now.stack.now c.requires.sound c.requires.pipe c.requires.open) c.read_pipe.ensures.becomes).is

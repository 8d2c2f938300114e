-- Bytes are queued on the owner's pipe.
use Rattle.std.proofs.Common.{refl}
use Rattle.usbd_core.proofs.Views.{sender_of, sender_opens, write_step}
use Rattle.usbd_core.proofs.view.DevViewDevPipes.write.Goals as goal

pub write_pipe-requires-clause-sender : goal.write_pipe-requires-clause-sender
write_pipe-requires-clause-sender g c = sender_of c.args.self.now.owner c.args.self.now.sends c.args.self.now.receives c.args.self.now.notifies c.args.pipe c.sender-number.result c.args.self.now.stack.now c.requires.sound c.requires.pipe c.sender-number.ensures

pub write_pipe-requires-clause-open : goal.write_pipe-requires-clause-open
write_pipe-requires-clause-open g c = sender_opens c.args.self.now.owner c.args.self.now.sends c.args.self.now.receives c.args.self.now.notifies c.args.pipe c.sender-number.result c.args.self.now.stack.now c.requires.sound c.requires.pipe c.sender-number.ensures c.requires.open

pub returns-clause-pipes : goal.returns-clause-pipes
returns-clause-pipes g c = (write_step c.args.self.now.owner c.args.self.now.sends c.args.self.now.receives c.args.self.now.notifies 0 c.args.pipe c.sender-number.result c.args.bytes.now c.args.self.now.stack.now c.write_pipe.new.self c.requires.sound c.requires.pipe c.sender-number.ensures (sender_opens c.args.self.now.owner c.args.self.now.sends c.args.self.now.receives c.args.self.now.notifies c.args.pipe c.sender-number.result c.args.self.now.stack.now c.requires.sound c.requires.pipe c.sender-number.ensures c.requires.open) c.write_pipe.ensures.becomes).pipes

pub returns-clause-beside : goal.returns-clause-beside
returns-clause-beside g c = (refl, refl, refl, refl, refl, (write_step c.args.self.now.owner c.args.self.now.sends c.args.self.now.receives c.args.self.now.notifies 0 c.args.pipe c.sender-number.result c.args.bytes.now c.args.self.now.stack.now c.write_pipe.new.self c.requires.sound c.requires.pipe c.sender-number.ensures (sender_opens c.args.self.now.owner c.args.self.now.sends c.args.self.now.receives c.args.self.now.notifies c.args.pipe c.sender-number.result c.args.self.now.stack.now c.requires.sound c.requires.pipe c.sender-number.ensures c.requires.open) c.write_pipe.ensures.becomes).beside)

pub returns-clause-sound : goal.returns-clause-sound
returns-clause-sound g c = (write_step c.args.self.now.owner c.args.self.now.sends c.args.self.now.receives c.args.self.now.notifies 0 c.args.pipe c.sender-number.result c.args.bytes.now c.args.self.now.stack.now c.write_pipe.new.self c.requires.sound c.requires.pipe c.sender-number.ensures (sender_opens c.args.self.now.owner c.args.self.now.sends c.args.self.now.receives c.args.self.now.notifies c.args.pipe c.sender-number.result c.args.self.now.stack.now c.requires.sound c.requires.pipe c.sender-number.ensures c.requires.open) c.write_pipe.ensures.becomes).is

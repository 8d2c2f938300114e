-- The pipe has its ring.
use Rattle.usbd_core.proofs.Views.{sends, receiver_of, sender_of}
use Rattle.usbd_core.proofs.view.DevViewDevPipes.room.Goals as goal

pub out_room-requires-clause-receiver : goal.out_room-requires-clause-receiver
out_room-requires-clause-receiver g c = receiver_of c.args.self.now.owner c.args.self.now.sends c.args.self.now.receives c.args.self.now.notifies c.args.self.now.stack.now c.requires.sound

pub in_room-requires-clause-sender : goal.in_room-requires-clause-sender
in_room-requires-clause-sender g c = sender_of c.args.self.now.owner c.args.self.now.sends c.args.self.now.receives c.args.self.now.notifies c.args.pipe c.sender.result c.args.self.now.stack.now c.requires.sound (sends c.args.pipe c.requires.pipe c.if-pipe-eq1.false) c.sender.ensures

-- The owner's pipe is armed.
use Rattle.std.proofs.Common.{refl}
use Rattle.usbd_core.proofs.Views.{receiver_of, arm_step}
use Rattle.usbd_core.proofs.view.DevViewDevPipes.arm.Goals as goal

pub arm_pipe-requires-clause-receiver : goal.arm_pipe-requires-clause-receiver
arm_pipe-requires-clause-receiver g c = receiver_of c.args.self.now.owner c.args.self.now.sends c.args.self.now.receives c.args.self.now.notifies c.args.self.now.stack.now c.requires.sound

pub returns-clause-pipes : goal.returns-clause-pipes
returns-clause-pipes g c = (arm_step c.args.self.now.owner c.args.self.now.sends c.args.self.now.receives c.args.self.now.notifies 2 c.args.pipe c.args.self.now.stack.now c.arm_pipe.new.self c.requires.sound c.requires.pipe c.requires.rests c.arm_pipe.ensures).pipes

pub returns-clause-beside : goal.returns-clause-beside
returns-clause-beside g c = (refl, refl, refl, refl, refl, (arm_step c.args.self.now.owner c.args.self.now.sends c.args.self.now.receives c.args.self.now.notifies 2 c.args.pipe c.args.self.now.stack.now c.arm_pipe.new.self c.requires.sound c.requires.pipe c.requires.rests c.arm_pipe.ensures).beside)

pub returns-clause-sound : goal.returns-clause-sound
returns-clause-sound g c = (arm_step c.args.self.now.owner c.args.self.now.sends c.args.self.now.receives c.args.self.now.notifies 2 c.args.pipe c.args.self.now.stack.now c.arm_pipe.new.self c.requires.sound c.requires.pipe c.requires.rests c.arm_pipe.ensures).is

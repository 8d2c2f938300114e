-- The call keeps what holds of controller, software and these rings.
use Rattle.usbd_core.proofs.port.stall.Goals as goal

pub returns-clause-port : goal.returns-clause-port
returns-clause-port g c = (c.stall_ep0.ensures.keeps c.args.rings.now c.requires.sound).1

pub returns-clause-sound : goal.returns-clause-sound
returns-clause-sound g c = (c.stall_ep0.ensures.keeps c.args.rings.now c.requires.sound).0

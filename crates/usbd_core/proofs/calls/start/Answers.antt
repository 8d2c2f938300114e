-- A pipe that rests may start a transfer.
use Rattle.dwc2_device.specs.Driver.{joint}
use Rattle.usbd_core.proofs.Shows.{in_state_rests, in_class}
use Rattle.usbd_core.proofs.calls.start.Goals as goal

pub start_in-requires-clause-rests : goal.start_in-requires-clause-rests
start_in-requires-clause-rests g c = in_state_rests (joint c.args.port.now) c.args.rings.now c.args.number c.requires.sound c.requires.rests

pub start_in-requires-clause-class : goal.start_in-requires-clause-class
start_in-requires-clause-class g c = in_class (joint c.args.port.now) c.args.rings.now c.args.number c.requires.sound c.requires.sender c.requires.rests

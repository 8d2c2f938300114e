-- A pipe that rests, and has room, may be armed.
use Rattle.dwc2_device.specs.Driver.{joint}
use Rattle.usbd_core.proofs.Shows.{out_state_rests, out_moves, out_class, out_fits}
use Rattle.usbd_core.proofs.calls.arm.Goals as goal

pub arm_out-requires-clause-rests : goal.arm_out-requires-clause-rests
arm_out-requires-clause-rests g c = out_state_rests (joint c.args.port.now) c.args.rings.now c.args.number c.requires.sound c.requires.rests

pub arm_out-requires-clause-moves : goal.arm_out-requires-clause-moves
arm_out-requires-clause-moves g c = out_moves (joint c.args.port.now) c.args.rings.now c.args.number c.requires.sound c.requires.rests

pub arm_out-requires-clause-class : goal.arm_out-requires-clause-class
arm_out-requires-clause-class g c = out_class (joint c.args.port.now) c.args.rings.now c.args.number c.requires.sound c.requires.receiver c.requires.rests

pub arm_out-requires-clause-room : goal.arm_out-requires-clause-room
arm_out-requires-clause-room g c = out_fits (joint c.args.port.now) c.args.rings.now c.args.number c.requires.sound c.requires.receiver c.requires.rests c.requires.room

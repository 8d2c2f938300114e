-- An open pipe has the room of its ring, and a closed one none.
use Rattle.std.proofs.Common.{◌∙◌, sym}
use Rattle.dwc2_device.specs.Driver.{joint}
use Rattle.usbd_core.proofs.Shows.{in_room, in_none}
use Rattle.usbd_core.proofs.calls.in_room.Goals as goal

pub returns-then-is_open_at : goal.returns-then-is_open_at
returns-then-is_open_at g c = in_room (joint c.args.port.now) c.args.rings.now c.args.number c.room.result c.requires.sound c.requires.sender (sym c.is_open_at.ensures.value ∙ c.if-is_open_at.true) c.room.ensures

pub returns : goal.returns
returns g c = in_none (joint c.args.port.now) c.args.rings.now c.args.number c.requires.sound c.requires.sender (sym c.is_open_at.ensures.value ∙ c.if-is_open_at.false)

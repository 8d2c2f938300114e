-- The first three endpoints of each direction are all that can have a note.
use Rattle.dwc2_device.specs.Driver.{joint}
use Rattle.usbd_core.proofs.Told.{notes_told}
use Rattle.usbd_core.proofs.stack.DevStack.tell_notes.Goals as goal

pub returns : goal.returns
returns g c =
    let states = g.C.DevClasses.states in
    notes_told g.C.DevClasses.rules c.args.self.now.set (joint c.args.self.now.port) c.args.self.now.rings
    (states c.args.classes.now) (states c.tell_came.new.classes) (states c.tell_came-2.new.classes) (states c.tell_came-3.new.classes)
    (states c.tell_ended.new.classes) (states c.tell_ended-2.new.classes) (states c.tell_ended-3.new.classes) c.requires.sound
    c.tell_came.ensures c.tell_came-2.ensures c.tell_came-3.ensures c.tell_ended.ensures c.tell_ended-2.ensures c.tell_ended-3.ensures

-- All agrees at the start.
use Rattle.usbd_core.proofs.Wholes.{start_whole}
use Rattle.usb_descriptor.specs.Set.{endpoints_of}
use Rattle.usbd_core.proofs.Begins.{are_empty, start_agrees}
use Rattle.usbd_core.proofs.stack.DevStack.open.Goals as goal

pub returns-clause-agrees : goal.returns-clause-agrees
returns-clause-agrees g c =
    let rings = c.in_ok-rings.rings in
    start_agrees c.args.set c.init.new.self rings c.init.ensures.joint c.init.ensures.device
    (c.init.ensures.sound rings (are_empty rings (endpoints_of c.args.set.config) c.in_ok-rings.ensures)) c.endpoints_are_served.ensures

pub returns-clause-whole : goal.returns-clause-whole
returns-clause-whole g c = start_whole c.args.set c.init.new.self c.in_ok-rings.rings (returns-clause-agrees g c) c.init.ensures.joint c.in_ok-rings.ensures c.init.ensures.spends.1

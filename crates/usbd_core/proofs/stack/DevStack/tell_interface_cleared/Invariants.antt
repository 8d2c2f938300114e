use Rattle.std.proofs.Common.{◌≡◌, drop}
use Rattle.usb_descriptor.specs.Set.{has_endpoint}
use Rattle.device_owners.specs.Device.{told_cleared_each}
use Rattle.device_relation.specs.PipeRelation.{pipes_of}
use Rattle.dwc2_device.specs.Driver.{joint}
use Rattle.usbd_core.specs.Device.{machinery}
use Rattle.usbd_core.proofs.stack.DevStack.tell_interface_cleared.Given as goal

-- what the rest is told makes up what all are told
abbrev pub invariant-loop-endpoint : goal.invariant-loop-endpoint
invariant-loop-endpoint g l =
    let m = machinery g.C.DevClasses.rules l.self.set (g.C.DevClasses.states l.initial.classes) in
    let pipes = pipes_of (joint l.self.port) l.self.rings in
    told_cleared_each m pipes (has_endpoint l.self.set.config l.number) (drop l.endpoint-index l.endpoint-items) (g.C.DevClasses.states l.classes)
    ≡ told_cleared_each m pipes (has_endpoint l.self.set.config l.number) l.endpoint-items (g.C.DevClasses.states l.initial.classes)

-- None is left to tell.
use Rattle.std.proofs.Common.{ap, ◌∙◌}
use Rattle.usb_descriptor.specs.Set.{endpoints_of, has_endpoint}
use Rattle.device_owners.specs.Device.{told_cleared_each}
use Rattle.device_relation.specs.PipeRelation.{pipes_of}
use Rattle.dwc2_device.specs.Driver.{joint}
use Rattle.usbd_core.specs.Device.{Device, machinery}
use Rattle.usbd_core.proofs.Seen.{all_told}
use Rattle.usbd_core.proofs.stack.DevStack.tell_interface_cleared.Goals as goal

pub returns : goal.returns
returns g c =
    let rules = g.C.DevClasses.rules in
    let before = g.C.DevClasses.states c.args.classes.now in
    let now = c.args.self.now in
    let pipes = pipes_of (joint now.port) now.rings in
    let named = has_endpoint now.set.config c.args.number in
    all_told rules now.set before pipes named c.endpoints-endpoint-items.result.now c.loop-endpoint.endpoint-index (g.C.DevClasses.states c.loop-endpoint.classes) c.loop-endpoint-test.false
    ∙ c.loop-endpoint.invariant
    ∙ ap (λ es. told_cleared_each (machinery rules now.set before) pipes named es before) (c.endpoints-endpoint-items.ensures.value ∙ ap (λ (d : Device). endpoints_of d.set.config) c.self.view_is)

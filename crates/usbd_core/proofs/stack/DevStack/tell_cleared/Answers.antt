-- The class of the open endpoint is told.
use Rattle.std.proofs.Common.{ℕ, ap, sym, ◌∙◌}
use Rattle.usb_pipe.specs.Classes.{told}
use Rattle.device_relation.specs.PipeRelation.{pipes_of}
use Rattle.dwc2_device.specs.Driver.{joint}
use Rattle.usbd_core.specs.Device.{Device}
use Rattle.usbd_core.specs.Task.{open_endpoint}
use Rattle.usbd_core.proofs.Seen.{told_open, told_none}
use Rattle.usbd_core.proofs.stack.DevStack.tell_cleared.Goals as goal

pub returns-in-Some : goal.returns-in-Some
returns-in-Some g c =
    let rules = g.C.DevClasses.rules in
    let before = g.C.DevClasses.states c.args.classes.now in
    let now = c.args.self.now in
    let a = c.args.addr in
    let e = c.in-Some.endpoint in
    c.cleared.ensures ∙ ap (λ (n : ℕ). told rules e.owner (λ r s. r.after_cleared s n) before) c.pipe_of.ensures
    ∙ told_open rules now.set before (pipes_of (joint now.port) now.rings) a e before
    (sym c.in-Some.is ∙ c.endpoint_at.ensures ∙ ap (λ (d : Device). open_endpoint (pipes_of (joint d.port) d.rings) a) c.self.view_is)

pub returns-in_default : goal.returns-in_default
returns-in_default g c =
    let before = g.C.DevClasses.states c.args.classes.now in
    let now = c.args.self.now in
    let a = c.args.addr in
    told_none g.C.DevClasses.rules now.set before (pipes_of (joint now.port) now.rings) a before
    (sym c.in_default.is ∙ c.endpoint_at.ensures ∙ ap (λ (d : Device). open_endpoint (pipes_of (joint d.port) d.rings) a) c.self.view_is)

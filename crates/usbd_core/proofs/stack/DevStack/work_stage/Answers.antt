-- The note of a stage is taken, and the transfer goes on.
use Rattle.std.proofs.Common.{Option, Some, ap, sym, ◌∙◌}
use Rattle.device_machine.specs.declared.control.Stage.{Stage}
use Rattle.device_owners.specs.Device.{Core, sent_on, came_on, work_stage}
use Rattle.device_relation.specs.Relation.{abstract}
use Rattle.device_relation.specs.PipeRelation.{pipes_of}
use Rattle.dwc2_device.specs.Driver.{joint}
use Rattle.usbd_core.specs.Device.{Device, transfer_of, seen, machinery}
use Rattle.usbd_core.proofs.Fits.{leaves_by}
use Rattle.usbd_core.proofs.Seen.{joined}
use Rattle.usbd_core.proofs.stack.DevStack.work_stage.Goals as goal

pub returns-in-Some-Sent-clause-seen : goal.returns-in-Some-Sent-clause-seen
returns-in-Some-Sent-clause-seen g c =
    let rules = g.C.DevClasses.rules in
    let before = g.C.DevClasses.states c.args.classes.now in
    let s = c.self.inside in
    let t = transfer_of s.transfer s.stage in
    let with : Option Stage → Core = λ f. record { bus = abstract (joint s.port); pipes = pipes_of (joint s.port) s.rings; session = s.state.configured; finished = f; request = s.request; transfer = t } in
    ap (λ (k : Core). joined k before) (c.send.ensures.core ∙ ap (λ f. sent_on (with f) t) c.in-Some-Sent.ensures.after)
    ∙ ap (work_stage (machinery rules s.set before) (joined (with s.finished) before)) (ap Some (sym c.in-Some-Sent.field-0-is) ∙ c.in-Some-Sent.ensures.value)
    ∙ ap (λ (d : Device). work_stage (machinery rules d.set before) (seen d before) d.finished) c.self.view_is

pub returns-in-Some-Sent-clause-leaves : goal.returns-in-Some-Sent-clause-leaves
returns-in-Some-Sent-clause-leaves g c =
    let l = c.send.ensures.leaves in
    leaves_by _ c.args.self.now c.send.new.self 2 c.self.view_is l.0.0 l.0.1 l.1 l.2 l.3 l.4

pub returns-in-Some-Came-clause-seen : goal.returns-in-Some-Came-clause-seen
returns-in-Some-Came-clause-seen g c =
    let rules = g.C.DevClasses.rules in
    let before = g.C.DevClasses.states c.args.classes.now in
    let s = c.self.inside in
    let t = transfer_of s.transfer s.stage in
    let m = machinery rules s.set before in
    let with : Option Stage → Core = λ f. record { bus = abstract (joint s.port); pipes = pipes_of (joint s.port) s.rings; session = s.state.configured; finished = f; request = s.request; transfer = t } in
    c.take_data.ensures.seen ∙ ap (λ f. came_on m (joined (with f) before) t c.in-Some-Came.packet) c.in-Some-Came.ensures.after
    ∙ ap (work_stage m (joined (with s.finished) before)) (ap Some (sym c.in-Some-Came.field-0-is) ∙ c.in-Some-Came.ensures.value)
    ∙ ap (λ (d : Device). work_stage (machinery rules d.set before) (seen d before) d.finished) c.self.view_is

pub returns-in-Some-Came-clause-leaves : goal.returns-in-Some-Came-clause-leaves
returns-in-Some-Came-clause-leaves g c =
    let l = c.take_data.ensures.leaves in
    leaves_by _ c.args.self.now c.take_data.new.self 2 c.self.view_is l.0.0 l.0.1 l.1 l.2 l.3 l.4

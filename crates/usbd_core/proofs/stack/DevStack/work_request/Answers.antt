-- The SETUP that was noted is worked.
use Rattle.std.proofs.Common.{ℕ, List, Option, ap, sym, ◌∙◌}
use Rattle.device_owners.specs.Device.{with_request_worked}
use Rattle.device_owners.specs.Device.{Device as Whole}
use Rattle.device_relation.specs.Relation.{abstract}
use Rattle.device_relation.specs.PipeRelation.{pipes_of}
use Rattle.dwc2_device.specs.Driver.{joint}
use Rattle.usbd_core.specs.Device.{Device, transfer_of, seen, machinery}
use Rattle.usbd_core.proofs.Fits.{leaves_by}
use Rattle.usbd_core.proofs.Notes.{worked_agrees}
use Rattle.usbd_core.proofs.Requests.{request_worked}
use Rattle.usbd_core.proofs.Seen.{joined}
use Rattle.usbd_core.proofs.stack.DevStack.work_request.Goals as goal

pub returns-in-Some-clause-seen : goal.returns-in-Some-clause-seen
returns-in-Some-clause-seen g c =
    let rules = g.C.DevClasses.rules in
    let before = g.C.DevClasses.states c.args.classes.now in
    let s = c.self.inside in
    let with : Option (List ℕ) → Whole g.C.DevClasses.State = λ r. joined (record {
      bus = abstract (joint s.port);
      pipes = pipes_of (joint s.port) s.rings;
      session = s.state.configured;
      finished = s.finished;
      request = r;
      transfer = transfer_of s.transfer s.stage;
    }) before in
    c.begin.ensures.seen
    ∙ request_worked rules s.set before (with s.request) (with c.take.new.self) c.in-Some.bytes c.setup_of.result (sym c.in-Some.ensures.value) (ap with c.in-Some.ensures.after) c.setup_of.ensures.fields
    ∙ ap (λ (d : Device). with_request_worked (machinery rules d.set before) (seen d before)) c.self.view_is

pub returns-in-Some-clause-agrees : goal.returns-in-Some-clause-agrees
returns-in-Some-clause-agrees g c =
    worked_agrees g.C.DevClasses.rules _ _ c.args.self.now c.begin.new.self c.requires.finished (returns-in-Some-clause-seen g c) c.begin.ensures.leaves.0.0 c.begin.ensures.leaves.0.1

pub returns-in-Some-clause-leaves : goal.returns-in-Some-clause-leaves
returns-in-Some-clause-leaves g c =
    let l = c.begin.ensures.leaves in
    leaves_by _ c.args.self.now c.begin.new.self 28 c.self.view_is l.0.0 l.0.1 l.1 l.2 l.3 l.4

-- A data stage is sent; an address that a request brings is at most 127, and what it changes is changed behind its status stage; a
-- class decides in its own way.
use Rattle.std.proofs.Common.{ap, ◌∙◌, arith}
use Rattle.usb_pipe.specs.declared.decision.Decision.TheVariants.{Status}
use Rattle.usb_control.specs.declared.state.Choice.TheVariants.{Own}
use Rattle.usb_control.specs.Table.{gives}
use Rattle.device_owners.specs.Device.{Core, with_data}
use Rattle.device_relation.specs.Relation.{abstract}
use Rattle.device_relation.specs.PipeRelation.{pipes_of}
use Rattle.dwc2_device.specs.Driver.{joint}
use Rattle.usbd_core.specs.Device.{Device, transfer_of, core_of}
use Rattle.usbd_core.proofs.Fits.{leaves_by, leaves_within}
use Rattle.usbd_core.proofs.Pipes.{begun_as, begun_worked, leaves_on}
use Rattle.usbd_core.proofs.Requests.{near, data_given}
use Rattle.usbd_core.proofs.Seen.{joined}
use Rattle.usbd_core.proofs.stack.DevStack.begin.Goals as goal

pub acknowledge-requires-clause-address : goal.acknowledge-requires-clause-address
acknowledge-requires-clause-address g c =
    near c.self.inside.set c.core_state-state.result c.args.setup.now Status c.in-Status.effect c.in-Status.ensures.value

pub returns-in-Status-clause-leaves : goal.returns-in-Status-clause-leaves
returns-in-Status-clause-leaves g c = leaves_on c.args.self.now c.acknowledge.new.self c.change.new.self c.acknowledge.ensures.leaves c.change.ensures.leaves

pub returns-else-setup-eq0-clause-seen : goal.returns-else-setup-eq0-clause-seen
returns-else-setup-eq0-clause-seen g c =
    let rules = g.C.DevClasses.rules in
    let before = g.C.DevClasses.states c.args.classes.now in
    let s = c.self.inside in
    let setup = c.args.setup.now in
    let core : Core = record { bus = abstract (joint s.port); pipes = pipes_of (joint s.port) s.rings; session = s.state.configured; finished = s.finished; request = s.request; transfer = transfer_of s.transfer s.stage } in
    ap (λ (k : Core). joined k before) (c.send.ensures.core ∙ data_given core c.in-Data.bytes.now c.begin.new.self setup.length c.begin.ensures (omega arith)
    ∙ ap (λ (d : Device). with_data (core_of d) c.in-Data.bytes.now setup.length) c.self.view_is)
    ∙ begun_as rules before c.args.self.now s.set (gives c.in-Data.bytes.now) setup c.core_state-state.result (ap (λ (d : Device). d.set) c.self.view_is) c.in-Data.ensures.value c.core_state-state.ensures

pub returns-else-setup-eq0-clause-leaves : goal.returns-else-setup-eq0-clause-leaves
returns-else-setup-eq0-clause-leaves g c =
    let l = c.send.ensures.leaves in
    leaves_within 2 28 c.args.self.now c.send.new.self (omega arith) (leaves_by _ c.args.self.now c.send.new.self 2 c.self.view_is l.0.0 l.0.1 l.1 l.2 l.3 l.4)

pub returns-in-Status-clause-seen : goal.returns-in-Status-clause-seen
returns-in-Status-clause-seen g c =
    let rules = g.C.DevClasses.rules in
    let before = g.C.DevClasses.states c.args.classes.now in
    let setup = c.args.setup.now in
    begun_worked rules before _ c.args.self.now c.acknowledge.new.self c.change.new.self Status c.in-Status.effect setup c.acknowledge.ensures.core c.change.ensures.seen c.acknowledge.ensures.leaves.2
    ∙ begun_as rules before c.args.self.now c.self.inside.set (Own Status c.in-Status.effect) setup c.core_state-state.result (ap (λ (d : Device). d.set) c.self.view_is) c.in-Status.ensures.value c.core_state-state.ensures

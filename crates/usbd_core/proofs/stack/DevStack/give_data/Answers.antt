-- The packets of the data are sent.
use Rattle.std.proofs.Common.{ap, ◌∙◌, arith}
use Rattle.device_owners.specs.Device.{Core, with_data}
use Rattle.device_relation.specs.Relation.{abstract}
use Rattle.device_relation.specs.PipeRelation.{pipes_of}
use Rattle.dwc2_device.specs.Driver.{joint}
use Rattle.usbd_core.specs.Device.{Device, transfer_of, core_of}
use Rattle.usbd_core.proofs.Fits.{leaves_by}
use Rattle.usbd_core.proofs.Requests.{data_given}
use Rattle.usbd_core.proofs.stack.DevStack.give_data.Goals as goal

pub returns-else-allowed-eq0-clause-core : goal.returns-else-allowed-eq0-clause-core
returns-else-allowed-eq0-clause-core g c =
    let s = c.self.inside in
    let core : Core = record { bus = abstract (joint s.port); pipes = pipes_of (joint s.port) s.rings; session = s.state.configured; finished = s.finished; request = s.request; transfer = transfer_of s.transfer s.stage } in
    c.send.ensures.core ∙ data_given core c.args.bytes.now c.begin.new.self c.args.allowed c.begin.ensures (omega arith)
    ∙ ap (λ (d : Device). with_data (core_of d) c.args.bytes.now c.args.allowed) c.self.view_is

pub returns-else-allowed-eq0-clause-leaves : goal.returns-else-allowed-eq0-clause-leaves
returns-else-allowed-eq0-clause-leaves g c =
    let l = c.send.ensures.leaves in
    leaves_by _ c.args.self.now c.send.new.self 2 c.self.view_is l.0.0 l.0.1 l.1 l.2 l.3 l.4

-- What was found on the other endpoints is taken up.
use Rattle.std.proofs.Common.{ap, sym, ◌∙◌, subst}
use Rattle.dwc2_regs.specs.declared.access.TheConstants.{FS4}
use Rattle.device_owners.specs.Device.{Core}
use Rattle.device_rings.specs.Capacities.{capacities_of}
use Rattle.device_relation.specs.Port.{Port}
use Rattle.usbd_core.specs.Device.{Device, Agrees, transfer_of, core_of}
use Rattle.usbd_core.specs.Task.{GoesInOrder}
use Rattle.usbd_core.specs.Works.{with_pipes_noted}
use Rattle.usbd_core.proofs.Notes.{noted_agrees}
use Rattle.usbd_core.proofs.stack.DevStack.work_pipes.Goals as goal

pub returns-clause-core : goal.returns-clause-core
returns-clause-core g c =
    let s = c.self.inside in
    let agrees = subst (Agrees FS4) (sym c.self.view_is) c.requires.agrees in
    let with : Port → Core = λ p. record { bus = p.bus; pipes = p.pipes; session = s.state.configured; finished = s.finished; request = s.request; transfer = transfer_of s.transfer s.stage } in
    ap with (c.take_pipe_notes.ensures.keeps s.rings agrees.sound).1 ∙ ap (λ (d : Device). with_pipes_noted (core_of d)) c.self.view_is

pub returns-clause-agrees : goal.returns-clause-agrees
returns-clause-agrees g c =
    let s = c.self.inside in
    let agrees = subst (Agrees FS4) (sym c.self.view_is) c.requires.agrees in
    let kept = c.take_pipe_notes.ensures.keeps s.rings agrees.sound in
    noted_agrees _ c.take_pipe_notes.new.self agrees kept.0 kept.1

pub returns-clause-order : goal.returns-clause-order
returns-clause-order g c = subst (λ (d : Device). GoesInOrder d.port c.take_pipe_notes.new.self) c.self.view_is c.take_pipe_notes.ensures.order

pub returns-clause-capacities : goal.returns-clause-capacities
returns-clause-capacities g c = ap (λ (d : Device). capacities_of d.rings) c.self.view_is

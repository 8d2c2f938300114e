-- The session has the endpoints of the set.
use Rattle.std.proofs.Common.{List, [], if◌then◌else◌, refl, ap, sym, ◌∙◌, subst}
use Rattle.usb_descriptor.specs.declared.endpoint.Endpoint.{Endpoint}
use Rattle.device_machine.specs.Session.{opened}
use Rattle.device_owners.specs.Device.{Core, configured, classes_opened}
use Rattle.dwc2_regs.specs.declared.access.TheConstants.{FS4}
use Rattle.device_relation.specs.Port.{Port, port_of}
use Rattle.dwc2_device.specs.Driver.{joint}
use Rattle.usbd_core.specs.Device.{Device, Fits, transfer_of, seen, machinery}
use Rattle.usbd_core.specs.Task.{Needs, with_session}
use Rattle.usbd_core.specs.declared.state.DevState.{DevState}
use Rattle.usbd_core.proofs.Fits.{leaves_by, pipes_fit}
use Rattle.usbd_core.proofs.Opens.{all_known}
use Rattle.usbd_core.proofs.Seen.{both_are}
use Rattle.usbd_core.proofs.stack.DevStack.configure.Goals as goal

pub returns-clause-leaves : goal.returns-clause-leaves
returns-clause-leaves g c =
    let s = c.self.inside in
    let t = transfer_of s.transfer s.stage in
    let state : DevState = record { addr = s.state.addr; configured = c.args.begins } in
    let needs = subst (Needs FS4 24) (sym c.self.view_is) c.requires.needs in
    let new : Device = record { set = s.set; port = c.renew.new.port; rings = c.renew.new.rings; state = state; finished = s.finished; request = s.request; transfer = t } in
    leaves_by _ c.args.self.now new 24 c.self.view_is c.renew.ensures.sound
    (subst (λ (p : Port). Fits FS4 s.set p state t) (sym c.renew.ensures.port) (pipes_fit s.set (port_of (joint s.port) s.rings) _ s.state c.args.begins t needs.0.1))
    c.renew.ensures.spends refl c.renew.ensures.order c.renew.ensures.capacities

pub returns-clause-seen : goal.returns-clause-seen
returns-clause-seen g c =
    let rules = g.C.DevClasses.rules in
    let before = g.C.DevClasses.states c.args.classes.now in
    let s = c.self.inside in
    let now = c.args.self.now in
    let begins = c.args.begins in
    let with : Port → Core = λ p. record { bus = p.bus; pipes = p.pipes; session = begins; finished = s.finished; request = s.request; transfer = transfer_of s.transfer s.stage } in
    let session : List Endpoint → Core = λ es. with (with_session (port_of (joint s.port) s.rings) es) in
    both_are (with (port_of (joint c.renew.new.port) c.renew.new.rings)) (configured (machinery rules now.set before) (seen now before) begins).core (g.C.DevClasses.states c.begin_classes.new.classes) _
    (ap with c.renew.ensures.port ∙ ap (λ es. session (if begins then es else [])) c.endpoints.ensures.value ∙ ap session (sym (all_known (opened s.set begins)))
    ∙ ap (λ (d : Device). (configured (machinery rules d.set before) (seen d before) begins).core) c.self.view_is)
    (c.begin_classes.ensures ∙ ap (classes_opened (machinery rules now.set before) begins) c.end_classes.ensures)

-- The classes are told, and the halts end.
use Rattle.std.proofs.Common.{refl, ap, sym, ◌∙◌, subst, arith}
use Rattle.usb_descriptor.specs.Set.{has_endpoint}
use Rattle.usb_control.specs.declared.state.Effect.TheVariants as effect
use Rattle.dwc2_regs.specs.declared.access.TheConstants.{FS4}
use Rattle.device_owners.specs.Device.{Core, changed}
use Rattle.device_relation.specs.Port.{Port, port_of}
use Rattle.dwc2_device.specs.Driver.{joint}
use Rattle.usbd_core.specs.Device.{Device, Fits, transfer_of, seen, machinery}
use Rattle.usbd_core.specs.Task.{Needs, with_halts_ended}
use Rattle.usbd_core.proofs.Fits.{leaves_by, leaves_within, pipes_fit}
use Rattle.usbd_core.proofs.Seen.{both_are}
use Rattle.usbd_core.proofs.stack.DevStack.clear_interface.Goals as goal

pub returns-clause-seen : goal.returns-clause-seen
returns-clause-seen g c =
    let rules = g.C.DevClasses.rules in
    let before = g.C.DevClasses.states c.args.classes.now in
    let s = c.self.inside in
    let now = c.args.self.now in
    let n = c.args.number in
    let with : Port → Core = λ p. record { bus = p.bus; pipes = p.pipes; session = s.state.configured; finished = s.finished; request = s.request; transfer = transfer_of s.transfer s.stage } in
    both_are (with (port_of (joint c.clear_halts.new.port) c.clear_halts.new.rings)) (changed (machinery rules now.set before) (seen now before) (effect.ClearInterface n)).core (g.C.DevClasses.states c.tell_interface_cleared.new.classes) _
    (ap with (c.clear_halts.ensures.port ∙ ap (with_halts_ended (has_endpoint s.set.config n) (port_of (joint s.port) s.rings)) c.endpoints.ensures.value)
    ∙ ap (λ (d : Device). (changed (machinery rules d.set before) (seen d before) (effect.ClearInterface n)).core) c.self.view_is)
    c.tell_interface_cleared.ensures

pub returns-clause-leaves : goal.returns-clause-leaves
returns-clause-leaves g c =
    let s = c.self.inside in
    let t = transfer_of s.transfer s.stage in
    let needs = subst (Needs FS4 24) (sym c.self.view_is) c.requires.needs in
    let new : Device = record { set = s.set; port = c.clear_halts.new.port; rings = c.clear_halts.new.rings; state = s.state; finished = s.finished; request = s.request; transfer = t } in
    leaves_within 18 24 c.args.self.now new (omega arith)
    (leaves_by _ c.args.self.now new 18 c.self.view_is c.clear_halts.ensures.sound
    (subst (λ (p : Port). Fits FS4 s.set p s.state t) (sym c.clear_halts.ensures.port) (pipes_fit s.set (port_of (joint s.port) s.rings) _ s.state s.state.configured t needs.0.1))
    c.clear_halts.ensures.spends refl c.clear_halts.ensures.order c.clear_halts.ensures.capacities)

-- The next packet of a data stage waits, or the stage is over.
use Rattle.std.proofs.Common.{refl, ap, sym, ◌∙◌, subst}
use Rattle.device_machine.specs.declared.control.Side.TheVariants.{Wait}
use Rattle.device_owners.specs.Device.{Core, Sending, sent_on}
use Rattle.dwc2_regs.specs.declared.access.TheConstants.{FS4}
use Rattle.device_relation.specs.Port.{Port, port_of}
use Rattle.dwc2_device.specs.Driver.{joint}
use Rattle.usbd_core.specs.declared.transfer.Transfer.{Transfer as Kept}
use Rattle.usbd_core.specs.Device.{Device, Fits, transfer_of, core_of}
use Rattle.usbd_core.specs.Task.{Needs}
use Rattle.usbd_core.proofs.Fits.{leaves_by, side_fits, packet_sent, none_sent}
use Rattle.usbd_core.proofs.stack.DevStack.send.Goals as goal

pub returns-in-Some-clause-core : goal.returns-in-Some-clause-core
returns-in-Some-clause-core g c =
    let s = c.self.inside in
    let p = port_of (joint s.port) s.rings in
    let rest = c.take_packet.new.self in
    let with : Port → Kept → Core = λ p t. record { bus = p.bus; pipes = p.pipes; session = s.state.configured; finished = s.finished; request = s.request; transfer = transfer_of t rest } in
    let before : Kept → Core = λ t. record { bus = p.bus; pipes = p.pipes; session = s.state.configured; finished = s.finished; request = s.request; transfer = transfer_of t s.stage } in
    ap (λ (q : Port). with q s.transfer) c.start.ensures.port
    ∙ ap (with (record p { bus = record p.bus { side = Wait c.in-Some.packet c.is_over-last.result } })) c.in-Data.is
    ∙ packet_sent p.bus p.pipes s.state.configured s.finished s.request s.stage rest c.in-Some.packet c.is_over-last.result c.in-Some.ensures.first c.in-Some.ensures.rest c.is_over-last.ensures
    ∙ ap (λ (t : Kept). sent_on (before t) (transfer_of t s.stage)) (sym c.in-Data.is)
    ∙ ap (λ (d : Device). sent_on (core_of d) d.transfer) c.self.view_is

pub returns-in-Some-clause-leaves : goal.returns-in-Some-clause-leaves
returns-in-Some-clause-leaves g c =
    let s = c.self.inside in
    let rest = c.take_packet.new.self in
    let needs = subst (Needs FS4 2) (sym c.self.view_is) c.requires.needs in
    let new : Device = record { set = s.set; port = c.start.new.port; rings = s.rings; state = s.state; finished = s.finished; request = s.request; transfer = transfer_of s.transfer rest } in
    leaves_by _ c.args.self.now new 2 c.self.view_is c.start.ensures.sound
    (subst (λ (t : Kept). Fits FS4 s.set (port_of (joint c.start.new.port) s.rings) s.state (transfer_of t rest)) (sym c.in-Data.is)
    (subst (λ (p : Port). Fits FS4 s.set p s.state (Sending rest)) (sym c.start.ensures.port)
    (side_fits s.set (port_of (joint s.port) s.rings) (Wait c.in-Some.packet c.is_over-last.result) s.state (transfer_of s.transfer s.stage) (Sending rest) needs.0.1 refl tt)))
    c.start.ensures.spends refl c.start.ensures.order refl

pub returns-in-None-clause-core : goal.returns-in-None-clause-core
returns-in-None-clause-core g c =
    let s = c.self.inside in
    let p = port_of (joint s.port) s.rings in
    let before : Kept → Core = λ t. record { bus = p.bus; pipes = p.pipes; session = s.state.configured; finished = s.finished; request = s.request; transfer = transfer_of t s.stage } in
    none_sent p.bus p.pipes s.state.configured s.finished s.request s.stage c.in-None.ensures.first
    ∙ ap (λ (t : Kept). sent_on (before t) (transfer_of t s.stage)) (sym c.in-Data.is)
    ∙ ap (λ (d : Device). sent_on (core_of d) d.transfer) c.self.view_is

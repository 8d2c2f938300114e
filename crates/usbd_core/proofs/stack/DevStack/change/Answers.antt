-- Each change is that of the request.
use Rattle.std.proofs.Common.{ap, sym, ◌∙◌}
use Rattle.usb_control.specs.declared.state.Effect.TheVariants as effect
use Rattle.device_owners.specs.Device.{Core, changed}
use Rattle.device_relation.specs.Port.{Port}
use Rattle.usbd_core.specs.Device.{Device, transfer_of, seen, machinery}
use Rattle.usbd_core.proofs.Seen.{joined}
use Rattle.usbd_core.proofs.stack.DevStack.change.Goals as goal

pub returns-in-Halt-clause-seen : goal.returns-in-Halt-clause-seen
returns-in-Halt-clause-seen g c =
    let rules = g.C.DevClasses.rules in
    let before = g.C.DevClasses.states c.args.classes.now in
    let s = c.self.inside in
    let now = c.args.self.now in
    let with : Port → Core = λ p. record { bus = p.bus; pipes = p.pipes; session = s.state.configured; finished = s.finished; request = s.request; transfer = transfer_of s.transfer s.stage } in
    ap (λ (p : Port). joined (with p) before) c.halt.ensures.port
    ∙ ap (λ (d : Device). changed (machinery rules d.set before) (seen d before) (effect.Halt c.in-Halt.addr)) c.self.view_is
    ∙ ap (changed (machinery rules now.set before) (seen now before)) (sym c.in-Halt.is)

pub returns-in-Configure-clause-seen : goal.returns-in-Configure-clause-seen
returns-in-Configure-clause-seen g c =
    let before = g.C.DevClasses.states c.args.classes.now in
    let now = c.args.self.now in
    c.configure.ensures.seen ∙ ap (changed (machinery g.C.DevClasses.rules now.set before) (seen now before)) (sym c.in-Configure.is)

pub returns-in-Clear-clause-seen : goal.returns-in-Clear-clause-seen
returns-in-Clear-clause-seen g c =
    let before = g.C.DevClasses.states c.args.classes.now in
    let now = c.args.self.now in
    c.clear.ensures.seen ∙ ap (changed (machinery g.C.DevClasses.rules now.set before) (seen now before)) (sym c.in-Clear.is)

pub returns-in-ClearInterface-clause-seen : goal.returns-in-ClearInterface-clause-seen
returns-in-ClearInterface-clause-seen g c =
    let before = g.C.DevClasses.states c.args.classes.now in
    let now = c.args.self.now in
    c.clear_interface.ensures.seen ∙ ap (changed (machinery g.C.DevClasses.rules now.set before) (seen now before)) (sym c.in-ClearInterface.is)

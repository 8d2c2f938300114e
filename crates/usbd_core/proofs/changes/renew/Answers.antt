-- With all closed none is open.
use Rattle.std.proofs.Common.{[], arith, if◌then◌else◌, ap, sym, ◌∙◌, subst}
use Rattle.device_machine.specs.Laws.{AreOf}
use Rattle.device_relation.specs.Port.{Port, port_of}
use Rattle.dwc2_device.specs.Driver.{joint}
use Rattle.usbd_core.specs.Task.{with_session, with_endpoints}
use Rattle.usbd_core.proofs.Pipes.{all_shut}
use Rattle.usbd_core.proofs.changes.renew.Goals as goal

pub open_all-requires-clause-shut : goal.open_all-requires-clause-shut
open_all-requires-clause-shut g c = subst (AreOf []) (sym (ap (λ (p : Port). p.pipes) c.close_all.ensures.port)) (all_shut (joint c.args.port.now) c.args.rings.now)

pub returns-then-begins-clause-port : goal.returns-then-begins-clause-port
returns-then-begins-clause-port g c =
    let es = c.args.endpoints.now in
    c.open_all.ensures.port ∙ ap (λ p. with_endpoints p es) c.close_all.ensures.port
    ∙ ap (λ b. with_session (port_of (joint c.args.port.now) c.args.rings.now) (if b then es else [])) (sym c.if-begins.true)

pub returns-then-begins-clause-spends : goal.returns-then-begins-clause-spends
returns-then-begins-clause-spends g c =
    let one = c.close_all.ensures.spends in
    let two = c.open_all.ensures.spends in
    (omega (arith, one.0, two.0), two.1, λ start m. two.2 start (one.2 start m))

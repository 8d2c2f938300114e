-- No packet is loaded then.
use Rattle.std.proofs.Common.{ap, ◌∙◌}
use Rattle.endpoint_relation.specs.declared.in_.InState.{InState}
use Rattle.endpoint_relation.specs.declared.in_.InEndpoint.{InEndpoint}
use Rattle.dwc2_device.specs.Order.{loaded_if}
use Rattle.dwc2_device.proofs.ControlBits.{disables}
use Rattle.dwc2_device.proofs.InOrders.{ended, rests}
use Rattle.dwc2_device.proofs.port.DevPort.drop_in.Goals as goal

pub returns-clause-order : goal.returns-clause-order
returns-clause-order g c =
    let s = c.in_kept-kept.result in
    let kept : InEndpoint = record s { state = c.at_rest-kept.result; loaded = 0 } in
    ended c.args.self.now c.stop_in.new.self c.keep_in.new.self c.args.number kept c.requires.from c.requires.to c.keep_in.ensures
    (ap (λ (state : InState). loaded_if state 0) c.at_rest-kept.ensures ∙ rests s.state 0)
    (λ b. c.stop_in.ensures.order b (disables c.base_word.result c.base_word.ensures.few))

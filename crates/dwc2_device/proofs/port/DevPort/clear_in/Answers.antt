-- What is written, and what is kept.
use Rattle.std.proofs.Common.{ℕ, ◌+◌, false, ap, ◌∙◌}
use Rattle.endpoint_relation.specs.declared.in_.InState.{InState}
use Rattle.endpoint_relation.specs.declared.in_.InEndpoint.{InEndpoint}
use Rattle.endpoint_relation.specs.InWords.{in_snak_sd0pid_epdis}
use Rattle.endpoint_relation.specs.InSteps.{control_with, software_cleared}
use Rattle.endpoint_relation.specs.InTable.{stopped_at}
use Rattle.device_relation.specs.Software.{Joint, with_in_kept}
use Rattle.device_relation.specs.Run.{with_table}
use Rattle.dwc2_device.specs.Driver.{joint}
use Rattle.dwc2_device.specs.Order.{loaded_if}
use Rattle.dwc2_device.proofs.Kept.{kept_in}
use Rattle.dwc2_device.proofs.ControlBits.{disables_anew}
use Rattle.dwc2_device.proofs.InOrders.{ended, rests}
use Rattle.dwc2_device.proofs.port.DevPort.clear_in.Goals as goal

pub returns-clause-joint : goal.returns-clause-joint
returns-clause-joint g c =
    let d = c.args.self.now in
    let n = c.args.number in
    let s = c.in_kept-kept.result in
    let t = d.bank.table in
    let kept : InEndpoint = record s { state = c.at_rest-kept.result; halted = false; loaded = 0 } in
    let Written : ℕ → Joint = λ word. with_table (joint d) (stopped_at n word t) in
    let Rested : InState → Joint = λ state.
    record { table = stopped_at n (control_with n (record s { state = state; halted = false; loaded = 0 }) in_snak_sd0pid_epdis) t; software = with_in_kept d.software n (record s { state = state; halted = false; loaded = 0 }) } in
    let Made : InEndpoint → Joint = λ x. record { table = stopped_at n (control_with n (software_cleared x) in_snak_sd0pid_epdis) t; software = with_in_kept d.software n (software_cleared x) } in
    kept_in d c.stop_in.new.self c.keep_in.new.self n (stopped_at n (control_with n kept in_snak_sd0pid_epdis) t) kept c.keep_in.ensures
    (c.stop_in.ensures.joint ∙ ap (λ word. Written (word + in_snak_sd0pid_epdis)) c.base_word.ensures.value)
    ∙ ap Rested c.at_rest-kept.ensures
    ∙ ap Made c.in_kept-kept.ensures

pub returns-clause-order : goal.returns-clause-order
returns-clause-order g c =
    let s = c.in_kept-kept.result in
    let kept : InEndpoint = record s { state = c.at_rest-kept.result; halted = false; loaded = 0 } in
    ended c.args.self.now c.stop_in.new.self c.keep_in.new.self c.args.number kept c.requires.from c.requires.to c.keep_in.ensures
    (ap (λ (state : InState). loaded_if state 0) c.at_rest-kept.ensures ∙ rests s.state 0)
    (λ b. c.stop_in.ensures.order b (disables_anew c.base_word.result c.base_word.ensures.few))

-- What is written, and what is kept.
use Rattle.std.proofs.Common.{ap, ◌∙◌}
use Rattle.dwc2_regs.specs.Register.{doepctl, doeptsiz}
use Rattle.device_table.specs.State.{Table}
use Rattle.device_table.specs.Write.{after_write}
use Rattle.endpoint_relation.specs.declared.out_.OutEndpoint.{OutEndpoint}
use Rattle.endpoint_relation.specs.OutWords.{arm_word, one_packet}
use Rattle.endpoint_relation.specs.OutSteps.{armed}
use Rattle.endpoint_relation.specs.OutTable.{arm_writes}
use Rattle.device_relation.specs.Software.{Joint, with_out_kept}
use Rattle.dwc2_device.proofs.Kept.{kept_out}
use Rattle.device_relation.specs.Run.{with_table}
use Rattle.dwc2_device.proofs.OutSteps.{keeps_out}
use Rattle.dwc2_device.proofs.port.DevPort.arm_one.Goals as goal

pub returns-clause-joint : goal.returns-clause-joint
returns-clause-joint g c =
    let d = c.args.self.now in
    let n = c.args.number in
    let kept = c.out_kept-kept.result in
    let sized : Table = after_write d.bank.table (doeptsiz n) (one_packet kept.endpoint.size) in
    let Made : OutEndpoint → Joint = λ kept. record { table = arm_writes d.bank.table n kept; software = with_out_kept d.software n (armed kept) } in
    kept_out d c.write_base.new.self c.keep_out.new.self n (arm_writes d.bank.table n kept) (armed kept) c.keep_out.ensures
    (c.write_base.ensures.joint ∙ ap (λ (j : Joint). with_table j (after_write j.table (doepctl n) (arm_word kept))) c.write_one_packet.ensures.joint)
    ∙ ap Made c.out_kept-kept.ensures

pub returns-clause-order : goal.returns-clause-order
returns-clause-order g c =
    keeps_out c.args.self.now c.write_base.new.self c.keep_out.new.self c.args.number _ c.keep_out.ensures (λ start k. c.write_base.ensures.arms start (c.write_one_packet.ensures.order start k))

-- What is written, and what is kept.
use Rattle.std.proofs.Common.{refl, ap, ◌∙◌}
use Rattle.dwc2_regs.specs.Register.{diepctl}
use Rattle.device_table.specs.Write.{after_write}
use Rattle.endpoint_relation.specs.declared.in_.InEndpoint.{InEndpoint}
use Rattle.endpoint_relation.specs.InWords.{in_snak_sd0pid}
use Rattle.endpoint_relation.specs.InSteps.{control_with}
use Rattle.device_relation.specs.Software.{Joint, with_in_kept}
use Rattle.dwc2_device.specs.Order.{is_loaded}
use Rattle.dwc2_device.proofs.Kept.{kept_in}
use Rattle.dwc2_device.proofs.InOrders.{begun}
use Rattle.dwc2_device.proofs.port.DevPort.add_in.Goals as goal

pub returns-clause-joint : goal.returns-clause-joint
returns-clause-joint g c =
    let d = c.args.self.now in
    let n = c.args.number in
    let Made : InEndpoint → Joint = λ kept. record { table = after_write d.bank.table (diepctl n) (control_with n kept in_snak_sd0pid); software = with_in_kept d.software n kept } in
    kept_in d c.write_in_base.new.self c.keep_in.new.self n (after_write d.bank.table (diepctl n) (control_with n c.opened-opened.result in_snak_sd0pid)) c.opened-opened.result c.keep_in.ensures c.write_in_base.ensures.joint
    ∙ ap Made c.opened-opened.ensures

pub returns-clause-order : goal.returns-clause-order
returns-clause-order g c none =
    begun c.args.self.now c.write_in_base.new.self c.keep_in.new.self c.args.number c.opened-opened.result c.requires.from c.requires.to c.keep_in.ensures none
    (ap is_loaded c.opened-opened.ensures) (c.write_in_base.ensures.opens refl)

-- XFRC is cleared before CNAK.
use Rattle.std.proofs.Common.{[], ◌∷◌, ◌++◌, true, false, refl, ap, ◌∙◌, arith}
use Rattle.access_order.specs.Phase.{serving, at, filling, answering}
use Rattle.access_order.proofs.Phases.{loaded_zero}
use Rattle.access_order.proofs.Leads.{w, keeps, clear_leads, answer_leads}
use Rattle.dwc2_device.specs.Order.{loads}
use Rattle.dwc2_device.proofs.Ordered.{goes, same_ins}
use Rattle.dwc2_device.proofs.port.DevPort.end_load.Goals as goal

pub returns-clause-order : goal.returns-clause-order
returns-clause-order g c =
    let old = c.args.self.now in
    let mid = c.clear_in_interrupts.new.self in
    let new = c.write_in_control.new.self in
    let told = c.clear_in_interrupts.ensures.told ∙ ap (λ word. old.bank.log ++ w 0x908 word ∷ []) c.xfrc.ensures in
    goes old new (at 0 0 (filling false)) (serving 1) (same_ins mid new _ c.write_in_control.ensures.joint ∙ same_ins old mid _ c.clear_in_interrupts.ensures.joint)
    (λ start k.
    loaded_zero (loads old) start new.bank.log
    (keeps (at 0 0 (filling true) (loads old)) (at 0 0 answering (loads old)) mid.bank.log new.bank.log (w 0x900 0x04000000 ∷ []) c.write_in_control.ensures.told
    (answer_leads 0 0 0x900 0x04000000 (loads old) (omega arith) refl (record { epena = refl; epdis = refl; cnak = refl })) start
    (keeps (at 0 0 (filling false) (loads old)) (at 0 0 (filling true) (loads old)) old.bank.log mid.bank.log (w 0x908 1 ∷ []) told
    (clear_leads 0 0 false 0x908 1 (loads old) (omega arith) refl refl) start k)))

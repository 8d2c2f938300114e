-- The size comes before EPENA.
use Rattle.std.proofs.Common.{[], ◌∷◌, false, refl, ◌∙◌, arith}
use Rattle.access_order.specs.Phase.{serving, at, bare, sized, filling}
use Rattle.access_order.proofs.Phases.{enters_zero}
use Rattle.access_order.proofs.Leads.{w, keeps, size_leads, enable_leads}
use Rattle.dwc2_device.specs.Order.{loads}
use Rattle.dwc2_device.proofs.Ordered.{goes, same_ins}
use Rattle.dwc2_device.proofs.port.DevPort.begin_load.Goals as goal

pub returns-clause-order : goal.returns-clause-order
returns-clause-order g c =
    let old = c.args.self.now in
    let mid = c.write.new.self in
    let new = c.write_in_control.new.self in
    goes old new (serving 0) (at 0 0 (filling false)) (same_ins mid new _ c.write_in_control.ensures.joint ∙ same_ins old mid _ c.write.ensures.joint)
    (λ start k.
    keeps (at 0 0 (sized false) (loads old)) (at 0 0 (filling false) (loads old)) mid.bank.log new.bank.log (w 0x900 0x88000000 ∷ []) c.write_in_control.ensures.told
    (enable_leads 0 0 false 0x900 0x88000000 (loads old) (omega arith) refl (record { epena = refl; snak = refl; cnak = refl })) start
    (keeps (at 0 0 bare (loads old)) (at 0 0 (sized false) (loads old)) old.bank.log mid.bank.log _ c.write.ensures.told
    (size_leads 0 0 false bare 0x910 _ (loads old) (omega arith) refl (λ e h. (h, tt))) start
    (enters_zero (loads old) start old.bank.log k)))

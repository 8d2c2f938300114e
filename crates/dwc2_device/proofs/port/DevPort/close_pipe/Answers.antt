-- SNAK and EPDIS in both directions.
use Rattle.std.proofs.Common.{[], ◌∷◌, suc, refl, subst}
use Rattle.dwc2_regs.specs.Register.{offset_of, diepctl, doepctl}
use Rattle.dwc2_regs.proofs.OffsetLemmas.{diepctl_named, doepctl_named}
use Rattle.access_order.specs.Phase.{closing, Keeps}
use Rattle.access_order.proofs.Leads.{w, keeps, close_leads}
use Rattle.dwc2_device.proofs.Ordered.{two, one_more, up_to_eleven}
use Rattle.dwc2_device.proofs.port.DevPort.close_pipe.Goals as goal

pub returns-clause-order : goal.returns-clause-order
returns-clause-order g c =
    let x = c.args.x in
    let old = c.args.self.now.bank.log in
    let mid = c.write_in_control.new.self.bank.log in
    let new = c.write_out_control.new.self.bank.log in
    let ins = offset_of (diepctl x) in
    let outs = offset_of (doepctl x) in
    subst (λ n. Keeps (closing x) (closing n) old new) (one_more x)
    (keeps (closing x) (closing (suc x)) old new (w ins 0x48000000 ∷ w outs 0x48000000 ∷ [])
    (two old mid new (w ins 0x48000000) (w outs 0x48000000) c.write_in_control.ensures.told c.write_out_control.ensures.told)
    (close_leads x ins outs 0x48000000 c.requires.known (diepctl_named x (up_to_eleven x c.requires.known)) (doepctl_named x (up_to_eleven x c.requires.known))
    (record { epena = refl; epdis = refl; cnak = refl }) refl refl))

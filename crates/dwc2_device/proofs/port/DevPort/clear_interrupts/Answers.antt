-- XFRC of both directions.
use Rattle.std.proofs.Common.{[], ◌∷◌, ◌++◌, suc, refl, ap, ◌∙◌, subst}
use Rattle.dwc2_regs.specs.Register.{offset_of, diepint, doepint}
use Rattle.dwc2_regs.proofs.OffsetLemmas.{diepint_named, doepint_named}
use Rattle.access_order.specs.Phase.{clearing, Keeps}
use Rattle.access_order.proofs.Leads.{w, keeps, clear_both_leads}
use Rattle.dwc2_device.proofs.Ordered.{two, one_more, up_to_eleven}
use Rattle.dwc2_device.proofs.port.DevPort.clear_interrupts.Goals as goal

pub returns-clause-order : goal.returns-clause-order
returns-clause-order g c =
    let x = c.args.x in
    let old = c.args.self.now.bank.log in
    let mid = c.clear_in_interrupts.new.self.bank.log in
    let new = c.clear_out_interrupts.new.self.bank.log in
    let ins = offset_of (diepint x) in
    let outs = offset_of (doepint x) in
    subst (λ n. Keeps (clearing x) (clearing n) old new) (one_more x)
    (keeps (clearing x) (clearing (suc x)) old new (w ins 3 ∷ w outs 0xb ∷ [])
    (two old mid new (w ins 3) (w outs 0xb) (c.clear_in_interrupts.ensures.told ∙ ap (λ word. old ++ w ins word ∷ []) c.all_in_interrupts.ensures)
    (c.clear_out_interrupts.ensures.told ∙ ap (λ word. mid ++ w outs word ∷ []) c.all_out_interrupts.ensures))
    (clear_both_leads x ins outs 3 0xb c.requires.known (diepint_named x (up_to_eleven x c.requires.known)) (doepint_named x (up_to_eleven x c.requires.known)) refl refl))

-- An entry is popped.
use Rattle.std.proofs.Common.{ap, sym, ◌∙◌}
use Rattle.dwc2_regs.specs.declared.TheConstants.{GRXSTSP_STATUS, GRXSTSP_NUMBER}
use Rattle.dwc2_regs.specs.Field.{field_of}
use Rattle.access_order.specs.Phase.{serving, ended, closing}
use Rattle.access_order.proofs.Leads.{keeps, plain_pop_leads, end_pop_leads, drop_leads}
use Rattle.dwc2_device.specs.Order.{loads}
use Rattle.dwc2_device.proofs.Ordered.{wrote}
use Rattle.dwc2_device.proofs.port.DevPort.pop.Goals as goal

pub returns-clause-plain : goal.returns-clause-plain
returns-clause-plain g c h =
    wrote c.args.self.now c.read.new.self (serving 0) (serving 0) _ _ c.read.ensures.joint c.read.ensures.told
    (plain_pop_leads 0 _ (loads c.args.self.now) (λ e. h (ap (λ x. field_of x GRXSTSP_STATUS) c.read.ensures.value ∙ e)))

pub returns-clause-ends : goal.returns-clause-ends
returns-clause-ends g c n h =
    wrote c.args.self.now c.read.new.self (serving 0) (ended n) _ _ c.read.ensures.joint c.read.ensures.told
    (end_pop_leads n _ (loads c.args.self.now) (sym (ap (λ x. field_of x GRXSTSP_STATUS) c.read.ensures.value) ∙ h.0) (sym (ap (λ x. field_of x GRXSTSP_NUMBER) c.read.ensures.value) ∙ h.1))

pub returns-clause-closed : goal.returns-clause-closed
returns-clause-closed g c =
    keeps (closing 4) (closing 4) c.args.self.now.bank.log c.read.new.self.bank.log _ c.read.ensures.told (drop_leads _)

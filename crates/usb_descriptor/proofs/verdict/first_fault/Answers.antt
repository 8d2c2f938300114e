use Rattle.std.proofs.Common.{sym, ◌∙◌}
use Rattle.usb_descriptor.specs.declared.rule.Rule.TheVariants.{Sizes}
use Rattle.usb_descriptor.specs.Verdict.{rule_fault, rules}
use Rattle.usb_descriptor.proofs.Faults.{fault_later}
use Rattle.usb_descriptor.proofs.verdict.first_fault.Goals as goal

pub loop-rule-preserved : goal.loop-rule-preserved
loop-rule-preserved c =
    sym (fault_later (rule_fault c.args.limits c.args.row.now c.args.left.now c.args.claimed c.args.wrong_report) rules c.loop-rule.rule-index Sizes
    c.rule_fault-fault.result c.loop-rule-test.true c.rule_fault-fault.ensures (sym c.is_some.ensures ∙ c.if-is_some.false))
    ∙ c.loop-rule.invariant

use Rattle.std.proofs.Common.{◌≡◌, drop}
use Rattle.usb_descriptor.specs.Verdict.{rule_fault, rules, first_fault}
use Rattle.usb_descriptor.proofs.verdict.first_fault.Given as goal

-- no rule so far is broken
abbrev pub invariant-loop-rule : goal.invariant-loop-rule
invariant-loop-rule l =
    first_fault (rule_fault l.limits l.row l.left l.claimed l.wrong_report) (drop l.rule-index rules)
    ≡ first_fault (rule_fault l.limits l.row l.left l.claimed l.wrong_report) rules

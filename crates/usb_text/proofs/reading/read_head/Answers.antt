use Rattle.std.proofs.Common.{sym, ◌∙◌}
use Rattle.usb_text.proofs.Heads.{head_only, head_none}
use Rattle.usb_text.proofs.Kept.{head_keeps}
use Rattle.usb_text.proofs.Broken.{head_clash}
use Rattle.usb_text.proofs.reading.read_head.Goals as goal

pub unreachable-requires : goal.unreachable-requires
unreachable-requires c =
    head_clash c.args.line.now (sym c.head_of.ensures ∙ c.in-None.is) (sym c.lowest_rule.ensures ∙ c.in-None-lowest_rule.is)

pub returns-in-Some-clause-found : goal.returns-in-Some-clause-found
returns-in-Some-clause-found c = head_only c.args.line.now c.in-Some.value (sym c.head_of.ensures ∙ c.in-Some.is)

pub returns-in-Some-clause-kept : goal.returns-in-Some-clause-kept
returns-in-Some-clause-kept c = head_keeps c.args.line.now c.in-Some.value (sym c.head_of.ensures ∙ c.in-Some.is)

pub returns-in-Some-lowest_rule-clause-none : goal.returns-in-Some-lowest_rule-clause-none
returns-in-Some-lowest_rule-clause-none c = head_none c.args.line.now (sym c.head_of.ensures ∙ c.in-None.is)

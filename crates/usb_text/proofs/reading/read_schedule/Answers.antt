use Rattle.std.proofs.Common.{sym, ap, ◌∙◌}
use Rattle.std.specs.Option.{option_map}
use Rattle.usb_text.specs.Scheduled.{scheduled}
use Rattle.usb_text.proofs.Read.{line_only, line_none}
use Rattle.usb_text.proofs.Kept.{schedule_keeps}
use Rattle.usb_text.proofs.Broken.{schedule_clash}
use Rattle.usb_text.proofs.reading.read_schedule.Goals as goal

pub unreachable-requires : goal.unreachable-requires
unreachable-requires c =
    schedule_clash c.args.line.now (sym c.line_of.ensures ∙ ap (option_map scheduled) c.in-None.is) (sym c.lowest_rule.ensures ∙ c.in-None-lowest_rule.is)

pub returns-in-Some-clause-found : goal.returns-in-Some-clause-found
returns-in-Some-clause-found c = line_only c.args.line.now (scheduled c.in-Some.value) (sym c.line_of.ensures ∙ ap (option_map scheduled) c.in-Some.is)

pub returns-in-Some-clause-kept : goal.returns-in-Some-clause-kept
returns-in-Some-clause-kept c = schedule_keeps c.args.line.now (scheduled c.in-Some.value) (sym c.line_of.ensures ∙ ap (option_map scheduled) c.in-Some.is)

pub returns-in-Some-lowest_rule-clause-none : goal.returns-in-Some-lowest_rule-clause-none
returns-in-Some-lowest_rule-clause-none c = line_none c.args.line.now (sym c.line_of.ensures ∙ ap (option_map scheduled) c.in-None.is)

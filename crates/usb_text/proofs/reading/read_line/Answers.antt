use Rattle.std.proofs.Common.{sym, ◌∙◌}
use Rattle.usb_text.proofs.Lines.{place_only, place_again, place_keeps, place_clash}
use Rattle.usb_text.proofs.reading.read_line.Goals as goal

pub unreachable-requires : goal.unreachable-requires
unreachable-requires c =
    place_clash c.args.mode c.args.place c.args.bytes.now (sym c.line_in.ensures ∙ c.in-None.is) (sym c.lowest_rule.ensures ∙ c.in-None-lowest_rule.is)

pub returns-in-Some-clause-found : goal.returns-in-Some-clause-found
returns-in-Some-clause-found c = place_only c.args.mode c.args.place c.args.bytes.now c.in-Some.value (sym c.line_in.ensures ∙ c.in-Some.is)

pub returns-in-Some-clause-printable : goal.returns-in-Some-clause-printable
returns-in-Some-clause-printable c =
    (place_only c.args.mode c.args.place c.args.bytes.now c.in-Some.value (sym c.line_in.ensures ∙ c.in-Some.is)).1

pub returns-in-Some-clause-kept : goal.returns-in-Some-clause-kept
returns-in-Some-clause-kept c = place_keeps c.args.mode c.args.place c.args.bytes.now c.in-Some.value (sym c.line_in.ensures ∙ c.in-Some.is)

pub returns-in-Some-clause-again : goal.returns-in-Some-clause-again
returns-in-Some-clause-again c value fits stands e =
    let a = place_again c.args.mode c.args.place c.args.bytes.now value fits stands e in
    let b = sym c.line_in.ensures ∙ c.in-Some.is in
    cc

pub returns-in-Some-lowest_rule-clause-again : goal.returns-in-Some-lowest_rule-clause-again
returns-in-Some-lowest_rule-clause-again c value fits stands e =
    let a = place_again c.args.mode c.args.place c.args.bytes.now value fits stands e in
    let b = sym c.line_in.ensures ∙ c.in-None.is in
    absurd (cc)

use Rattle.std.proofs.Common.{ap, ◌∙◌, ◌++◌, append_assoc}
use Rattle.register_text.specs.Access.{mark}
use Rattle.register_text.proofs.access.push_access.Goals as goal

pub returns-clause-items : goal.returns-clause-items
returns-clause-items g c =
    c.push_text-2.ensures.items ∙ ap (λ t. t ++ c.as_slice.result.now) c.push_text.ensures.items
    ∙ append_assoc c.args.out.now.items c.mark.result.now c.as_slice.result.now
    ∙ ap (λ t. c.args.out.now.items ++ (t ++ c.as_slice.result.now)) c.mark.ensures.word
    ∙ ap (λ t. c.args.out.now.items ++ (mark c.args.side c.args.access.now.write ++ t)) (c.as_slice.ensures ∙ c.digits.ensures)

use Rattle.std.proofs.Common.{◌≡◌, List, [], ◌++◌, drop, ap, sym, ◌∙◌, append-nil}
use Rattle.std.proofs.lemmas.List.{drop_all}
use Rattle.descriptor_row.specs.declared.descriptor.Descriptor.{Descriptor}
use Rattle.descriptor_row.specs.Kinds.{left_after}
use Rattle.descriptor_row.proofs.Kept.{left_is_kept}
use Rattle.descriptor_row.proofs.left.left_of.Goals as goal

pub returns-clause-kept : goal.returns-clause-kept
returns-clause-kept c =
    let row = c.args.row.now in
    let items = c.loop-d.left.items in
    let none : drop c.loop-d.d-index row ≡ [] = drop_all c.loop-d.d-index row c.loop-d-test.false in
    sym (append-nil items)
    ∙ ap (λ (ds : List Descriptor). items ++ left_after c.loop-d.setting ds) (sym none)
    ∙ c.loop-d.invariant.same
    ∙ left_is_kept row

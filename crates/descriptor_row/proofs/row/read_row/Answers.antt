use Rattle.std.proofs.Common.{◌≡◌, ◌+◌, ◌-◌, ◌++◌, ◌∷◌, [], true, false, length, get_or, sym, ap, subst, ◌∙◌, arith, append-nil, length-append}
use Rattle.std.proofs.lemmas.Bool.Decides.{nat_tests}
use Rattle.std.specs.Prelude.{sum_by}
use Rattle.descriptor_row.specs.Row.{size, begins_at, descriptor_at, row_of, row_end}
use Rattle.descriptor_row.proofs.Rows.{row_more, row_stop, end_more}
use Rattle.descriptor_row.specs.Cut.{IsOnlyRow}
use Rattle.descriptor_row.proofs.Cutting.{only_row}
use Rattle.descriptor_row.proofs.row.read_row.Goals as goal

pub loop-row-preserved : goal.loop-row-preserved
loop-row-preserved c =
    let config = c.args.config.now in
    let at = c.loop-row.at in
    let items = c.loop-row.row.items in
    let h : begins_at config at ≡ true = cc in
    let s : c.from-at.result ≡ get_or config at 0 = cc in
    let e : c.descriptor_at.result ≡ descriptor_at config at = cc in
    let pushed : c.push.new.self.items ≡ items ++ descriptor_at config at ∷ [] = cc in
    rw (pushed, s) (record {
      low = grind (arith, nat_tests, length-append items (descriptor_at config at ∷ []));
      high = grind (arith, nat_tests);
      ends = end_more config items at h c.loop-row.invariant.ends;
      same = row_more config items at h (omega arith) c.loop-row.invariant.same;
    })

pub returns-clause-row : goal.returns-clause-row
returns-clause-row c =
    let config = c.args.config.now in
    let items = c.loop-row.row.items in
    let h : begins_at config c.loop-row.at ≡ false = cc in
    sym (c.loop-row.invariant.same ∙ ap (λ ds. items ++ ds) (row_stop (length config - length items) c.loop-row.at config h) ∙ append-nil items)

pub returns-clause-ends : goal.returns-clause-ends
returns-clause-ends c =
    c.loop-row.invariant.ends ∙ ap (λ ds. 9 + sum_by size ds) (returns-clause-row c)

pub returns-clause-only : goal.returns-clause-only
returns-clause-only c =
    let config = c.args.config.now in
    let row : c.loop-row.row.items ≡ row_of config = returns-clause-row c in
    let end : c.loop-row.at ≡ row_end config = returns-clause-ends c in
    subst (λ ds. IsOnlyRow config ds c.loop-row.at) (sym row) (subst (λ n. IsOnlyRow config (row_of config) n) (sym end) (only_row config c.requires.low))

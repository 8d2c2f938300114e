-- the word is written to the endpoint of that number
use Rattle.std.proofs.Common.{rules, ap, ◌∙◌, ◌≢◌, ◌-◌, sym, set, arith}
use Rattle.device_table.specs.State.{Table, InEnd, with_in, in_end}
use Rattle.device_table.specs.Write.{word_written}
use Rattle.dwc2_devmodel.specs.contracts.controller.Controller.{the_view}
use Rattle.dwc2_devmodel.proofs.WriteLemmas.{with_in_at}
use Rattle.dwc2_devmodel.proofs.controller.Controller.write_window.Goals as goal

pub returns-in_default : goal.returns-in_default
returns-in_default c =
    let t : Table = the_view c.self.inside in
    let x = c.args.x in
    let change : InEnd → InEnd = λ end. word_written x end c.args.word in
    let As : InEnd → Table = λ end. record t { ins = set t.ins (x - 1) end } in
    let some : x ≢ 0 = search rules in
    let at = with_in_at t x change c.index-self-x.result some (omega (arith, c.self.invariant.1)) c.index-self-x.is in
    ap As (c.push_word-in_default.ensures ∙ ap change (sym c.index-self-x.is))
    ∙ at
    ∙ ap (λ (table : Table). with_in table x (change (in_end table x))) c.self.view_is

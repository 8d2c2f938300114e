-- one more end is flushed
use Rattle.std.proofs.Common.{ap, ◌∙◌, List, set, get_or}
use Rattle.device_table.specs.State.{InEnd}
use Rattle.device_table.specs.Write.{emptied}
use Rattle.dwc2_devmodel.proofs.ListLemmas.{map_one_more}
use Rattle.dwc2_devmodel.proofs.write.flush_each.Goals as goal

pub loop-end-preserved : goal.loop-end-preserved
loop-end-preserved c =
    let old = c.args.ends.now in
    let i = c.loop-end.end-index in
    let With : List InEnd → List InEnd = λ ends. set ends i (emptied (get_or ends i c.end-item.result)) in
    ap (λ (end : InEnd). set c.loop-end.end-items i end) c.flush.ensures
    ∙ ap With c.loop-end.invariant
    ∙ map_one_more emptied old i c.end-item.result c.loop-end-test.true

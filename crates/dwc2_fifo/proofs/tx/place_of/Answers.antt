-- the packet at the index has the tag, or it is one more that hasn't
use Rattle.std.proofs.Common.{◌<◌, arith, length}
use Rattle.dwc2_fifo.proofs.PlaceLemmas.{NoneHas-more, bytes_under-more}
use Rattle.dwc2_fifo.specs.declared.tx.Head.{Head}
use Rattle.dwc2_fifo.proofs.tx.place_of.Goals as goal

pub loop-index-preserved : goal.loop-index-preserved
loop-index-preserved c =
    let blank : Head = record { tag = 0; len = 0 } in
    let heads = c.args.heads.now in
    let index = c.loop-index.index in
    let inside : index < length heads = omega arith in
    let i = c.loop-index.invariant in
    record {
      before = NoneHas-more c.args.tag heads index blank inside i.before c.if-head-tag.false;
      start_is = (let more = bytes_under-more heads index blank inside in omega (arith, i.start_is, more));
      small = omega arith;
    }

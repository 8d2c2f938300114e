-- an empty FIFO takes no words
use Rattle.std.proofs.Common.{◌≡◌, ◌≤◌, ◌∙◌, sym, ap, arith, length, take, length-take-le}
use Rattle.dwc2_fifo.specs.Tx.{words_taken}
use Rattle.dwc2_fifo.specs.Cut.{bytes_under}
use Rattle.dwc2_fifo.proofs.CutLemmas.{words_taken-tx_of, words_taken-empty}
use Rattle.dwc2_fifo.proofs.tx.TxFifo.set_depth.Goals as goal

pub invariant_of-self : goal.invariant_of-self
invariant_of-self c =
    let q = c.self.inside in
    let s = c.self.invariant in
    let i = s.is_cut in
    let row = take q.end q.bytes in
    let row_length = length-take-le q.end q.bytes (omega (arith, s.size, s.inside)) in
    let whole : bytes_under q.heads.items ≤ length row = omega (arith, row_length, i.total) in
    let none : q.used ≡ 0 = i.counted ∙ sym (words_taken-tx_of q.heads.items q.begun row q.depth whole) ∙ ap words_taken c.self.view_is ∙ words_taken-empty c.args.self.now c.requires.empty in
    record {
      size = s.size;
      inside = s.inside;
      is_cut = record { lengths = i.lengths; total = i.total; behind = i.behind; counted = i.counted; fits = omega (arith, none); most = c.requires.most };
    }

-- what is counted is what the packets take
use Rattle.std.proofs.Common.{ap, ◌∙◌, ◌-◌, ◌≤◌, sym, ℕ, arith, length, take, length-take-le}
use Rattle.dwc2_fifo.specs.Tx.{space_of}
use Rattle.dwc2_fifo.specs.Cut.{bytes_under}
use Rattle.dwc2_fifo.proofs.CutLemmas.{words_taken-tx_of}
use Rattle.dwc2_fifo.proofs.tx.TxFifo.space.Goals as goal

pub returns : goal.returns
returns c =
    let q = c.self.inside in
    let s = c.self.invariant in
    let row = take q.end q.bytes in
    let row_length = length-take-le q.end q.bytes (omega (arith, s.size, s.inside)) in
    let whole : bytes_under q.heads.items ≤ length row = omega (arith, row_length, s.is_cut.total) in
    ap (λ (n : ℕ). q.depth - n) (s.is_cut.counted ∙ sym (words_taken-tx_of q.heads.items q.begun row q.depth whole))
    ∙ ap space_of c.self.view_is

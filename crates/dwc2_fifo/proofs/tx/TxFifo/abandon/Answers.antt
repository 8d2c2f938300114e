-- what stays is the whole packets' bytes
use Rattle.std.proofs.Common.{◌≡◌, ◌≤◌, ◌-◌, ◌∙◌, ap, sym, arith, ℕ, List, length, take, take-take, length-take-le, None}
use Rattle.dwc2_fifo.specs.Tx.{Tx}
use Rattle.dwc2_fifo.specs.Cut.{bytes_under, tx_of}
use Rattle.dwc2_fifo.proofs.CutLemmas.{tx_of-abandoned}
use Rattle.dwc2_fifo.proofs.tx.TxFifo.abandon.Goals as goal

pub returns-in-Some : goal.returns-in-Some
returns-in-Some c =
    let q = c.self.inside in
    let s = c.self.invariant in
    let kept = q.end - q.got in
    let row = take q.end q.bytes in
    let row_length = length-take-le q.end q.bytes (omega (arith, s.size, s.inside)) in
    let as_many : kept ≡ bytes_under q.heads.items = omega (arith, s.is_cut.total) in
    let within : kept ≤ length row = omega (arith, row_length) in
    let Rest : List ℕ → Tx = λ bytes. tx_of q.heads.items None bytes q.depth in
    let Without : Tx → Tx = λ tx. record tx { unfinished = None } in
    ap Rest (sym (take-take kept q.end q.bytes (omega arith)))
    ∙ tx_of-abandoned q.heads.items q.begun row q.depth kept as_many within
    ∙ ap Without c.self.view_is

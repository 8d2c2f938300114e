-- the slots in use are the words of the entries and those left
use Rattle.std.proofs.Common.{ap, ◌∙◌, ◌-◌, ℕ, sym}
use Rattle.dwc2_fifo.specs.Rx.{room_of}
use Rattle.dwc2_fifo.proofs.RowLemmas.{length-left_in-words_in}
use Rattle.dwc2_fifo.proofs.rx.RxFifo.room.Goals as goal

pub returns : goal.returns
returns c =
    let q = c.self.inside in
    ap (λ (n : ℕ). q.depth - n) (c.len.ensures.count ∙ sym (length-left_in-words_in q.slots q.left c.self.invariant.whole))
    ∙ ap room_of c.self.view_is

-- where no slot is in use no word is left
use Rattle.std.proofs.Common.{ap, ◌∙◌, sym}
use Rattle.dwc2_fifo.specs.Rx.{Rx, first_word, word_taken}
use Rattle.dwc2_fifo.proofs.RowLemmas.{first_word-none, word_taken-none}
use Rattle.dwc2_fifo.proofs.rx.RxFifo.pop_word.Goals as goal

pub returns-in-None-clause-word : goal.returns-in-None-clause-word
returns-in-None-clause-word c =
    let q = c.self.inside in
    first_word-none q.slots q.left (sym c.in-None.ensures) ∙ ap (λ (rx : Rx). first_word rx.left) c.self.view_is

pub returns-in-None-clause-taken : goal.returns-in-None-clause-taken
returns-in-None-clause-taken c =
    let q = c.self.inside in
    sym c.self.view_is ∙ word_taken-none q.slots q.left q.depth (sym c.in-None.ensures) ∙ ap word_taken c.self.view_is

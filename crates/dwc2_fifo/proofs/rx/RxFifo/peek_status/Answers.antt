-- the slot behind the words left is the first entry's status
use Rattle.std.proofs.Common.{ap, ◌∙◌, sym}
use Rattle.dwc2_fifo.specs.Rx.{Rx, first_status}
use Rattle.dwc2_fifo.proofs.RowLemmas.{first_status-at, first_status-none}
use Rattle.dwc2_fifo.proofs.rx.RxFifo.peek_status.Goals as goal

pub returns-in-Some : goal.returns-in-Some
returns-in-Some c =
    let q = c.self.inside in
    sym (first_status-at q.slots q.left c.in-Some.slot (sym c.in-Some.ensures)) ∙ ap (λ (rx : Rx). first_status rx.entries) c.self.view_is

pub returns-in-None : goal.returns-in-None
returns-in-None c =
    let q = c.self.inside in
    sym (first_status-none q.slots q.left (sym c.in-None.ensures)) ∙ ap (λ (rx : Rx). first_status rx.entries) c.self.view_is

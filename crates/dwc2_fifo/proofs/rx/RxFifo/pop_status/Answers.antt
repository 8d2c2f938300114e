-- the slot behind the words left is the first entry's status, and its words stand behind it
use Rattle.std.proofs.Common.{ℕ, List, suc, ◌≡◌, ◌+◌, ap, ◌∙◌, sym, subst, arith, drop, length-drop}
use Rattle.dwc2_fifo.specs.declared.slots.Slot.{Slot}
use Rattle.dwc2_fifo.specs.Rx.{Rx, first_status, popped}
use Rattle.dwc2_fifo.specs.Row.{rx_of, AreWhole}
use Rattle.dwc2_fifo.proofs.RowLemmas.{first_status-at, first_status-none, popped-at, popped-none, AreWhole-at}
use Rattle.dwc2_fifo.proofs.rx.RxFifo.pop_status.Goals as goal

pub invariant_of-self : goal.invariant_of-self
invariant_of-self c =
    let q = c.self.inside in
    let slot = c.in-Some.slot in
    let next : suc q.left ≡ q.left + 1 = omega arith in
    let P : ℕ → Type 0 = λ n. AreWhole (drop n q.slots) slot.behind in
    let whole = subst P next (AreWhole-at q.slots q.left slot c.self.invariant.whole (sym c.in-Some.ensures)) in
    let fewer = length-drop (q.left + 1) q.slots in
    rw c.skip.ensures (record { whole = whole; fits = omega (arith, c.self.invariant.fits, fewer); most = c.self.invariant.most })

pub returns-in-Some-clause-status : goal.returns-in-Some-clause-status
returns-in-Some-clause-status c =
    let q = c.self.inside in
    sym (first_status-at q.slots q.left c.in-Some.slot (sym c.in-Some.ensures)) ∙ ap (λ (rx : Rx). first_status rx.entries) c.self.view_is

pub returns-in-Some-clause-popped : goal.returns-in-Some-clause-popped
returns-in-Some-clause-popped c =
    let q = c.self.inside in
    let slot = c.in-Some.slot in
    let next : q.left + 1 ≡ suc q.left = omega arith in
    let Kept : List Slot → Rx = λ slots. rx_of slots slot.behind q.depth in
    let From : ℕ → List Slot = λ n. drop n q.slots in
    ap Kept (c.skip.ensures ∙ ap From next) ∙ popped-at q.slots q.left q.depth slot (sym c.in-Some.ensures) ∙ ap popped c.self.view_is

pub returns-in-None-clause-status : goal.returns-in-None-clause-status
returns-in-None-clause-status c =
    let q = c.self.inside in
    sym (first_status-none q.slots q.left (sym c.in-None.ensures)) ∙ ap (λ (rx : Rx). first_status rx.entries) c.self.view_is

pub returns-in-None-clause-popped : goal.returns-in-None-clause-popped
returns-in-None-clause-popped c =
    let q = c.self.inside in
    sym c.self.view_is ∙ popped-none q.slots q.left q.depth (sym c.in-None.ensures) ∙ ap popped c.self.view_is

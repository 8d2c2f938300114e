-- where no word is left a slot in use is a status
use Rattle.std.proofs.Common.{subst}
use Rattle.std.specs.Prelude.{not, nat_eq}
use Rattle.dwc2_fifo.proofs.RowLemmas.{Ready, Ready-none_left, Ready-left}
use Rattle.dwc2_fifo.proofs.rx.RxFifo.is_ready.Goals as goal

pub returns-then-self-eq0 : goal.returns-then-self-eq0
returns-then-self-eq0 c =
    let q = c.self.inside in
    subst (Ready (not (nat_eq c.len.result 0))) c.self.view_is (Ready-none_left q.slots q.left c.len.result q.depth c.if-self-eq0.true c.len.ensures.count)

pub returns-else-self-eq0 : goal.returns-else-self-eq0
returns-else-self-eq0 c =
    let q = c.self.inside in
    subst (Ready (nat_eq q.left 0)) c.self.view_is (Ready-left q.slots q.left q.depth c.self.invariant.whole c.if-self-eq0.false)

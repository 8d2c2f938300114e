-- the slots that stay begin n further on
use Rattle.std.proofs.Common.{◌≤◌, List, length, drop, ap, ◌∙◌, arith}
use Rattle.dwc2_fifo.specs.declared.slots.Slot.{Slot}
use Rattle.dwc2_fifo.proofs.HeldLemmas.{length-held, held_from_later}
use Rattle.dwc2_fifo.proofs.slots.SlotRing.skip.Goals as goal

pub returns : goal.returns
returns c =
    let q = c.self.inside in
    let length_before = length-held q.slots q.oldest q.len c.self.invariant in
    let same_length = ap length c.self.view_is in
    let enough : c.args.n ≤ q.len = omega arith in
    held_from_later q.slots q.oldest q.len c.self.invariant c.args.n enough
    ∙ ap (λ (xs : List Slot). drop c.args.n xs) c.self.view_is

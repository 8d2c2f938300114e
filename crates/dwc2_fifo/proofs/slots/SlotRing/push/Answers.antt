-- the slot is written behind the last one in use
use Rattle.std.proofs.Common.{◌<◌, List, [], ◌∷◌, ◌++◌, length, ap, ◌∙◌, arith}
use Rattle.dwc2_fifo.specs.declared.slots.Slot.{Slot}
use Rattle.dwc2_fifo.proofs.HeldLemmas.{length-held, held_with_slot}
use Rattle.dwc2_fifo.proofs.slots.SlotRing.push.Goals as goal

pub returns : goal.returns
returns c =
    let q = c.self.inside in
    let length_before = length-held q.slots q.oldest q.len c.self.invariant in
    let same_length = ap length c.self.view_is in
    let has_room : q.len < 1024 = omega arith in
    held_with_slot q.slots q.oldest q.len c.self.invariant c.args.slot has_room
    ∙ ap (λ (xs : List Slot). xs ++ c.args.slot ∷ []) c.self.view_is

use Rattle.std.proofs.Common.{◌≡◌, ℕ, ◌≤◌, ◌+◌, List, ap, length, ◌∙◌, arith, vec_len}
use Rattle.std.proofs.lemmas.List.{with_items_is}
use Rattle.usb_ring.specs.Ring.{Ring, appended}
use Rattle.usb_ring.specs.Slots.{held, around, overwritten_around}
use Rattle.usb_ring.proofs.Window.{length-held, row_after, held_with_bytes}
use Rattle.usb_ring.proofs.storage.ByteRing.append.Goals as goal

-- the bytes are written behind the last one held
pub returns : goal.returns
returns c =
    let q = c.self.inside in
    let capacity = vec_len q.slots in
    let bytes = c.args.bytes.now in
    let as_ring : List ℕ → Ring = λ held. record { bytes = held; capacity = capacity } in
    let with_bytes : Ring → Ring = λ ring. appended ring bytes in
    let length_before = length-held q.slots.items capacity q.oldest q.len c.self.invariant in
    let bytes_before = ap (λ (ring : Ring). length ring.bytes) c.self.view_is in
    let capacity_before = ap (λ (ring : Ring). ring.capacity) c.self.view_is in
    let has_room : q.len + length bytes ≤ capacity = omega arith in
    let written : c.write_around.new.slots ≡ overwritten_around q.slots.items (around (q.oldest + q.len) capacity) bytes =
    c.write_around.ensures
    ∙ ap (λ (slots : List ℕ). overwritten_around slots c.around_end-end.result bytes) c.deref_mut.ensures.value
    ∙ ap (λ end. overwritten_around q.slots.items end bytes) (c.around_end-end.ensures ∙ ap (λ k. around (q.oldest + q.len) k) c.len.ensures) in
    let all_written : length c.write_around.new.slots ≡ capacity =
    ap (λ (slots : List ℕ). length slots) written ∙ (row_after q.slots.items bytes capacity q.oldest q.len c.self.invariant has_room).counted in
    ap (λ (slots : List ℕ). as_ring (held q.oldest (q.len + length bytes) slots)) (with_items_is q.slots c.write_around.new.slots all_written ∙ written)
    ∙ ap as_ring (held_with_bytes q.slots.items bytes capacity q.oldest q.len c.self.invariant has_room)
    ∙ ap with_bytes c.self.view_is

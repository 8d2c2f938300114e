use Rattle.std.proofs.Common.{◌≤◌, ◌+◌, ap, length, drop, take, ◌∙◌, arith, vec_len}
use Rattle.usb_ring.specs.Ring.{Ring}
use Rattle.usb_ring.proofs.Window.{length-held, held_part}
use Rattle.usb_ring.proofs.storage.ByteRing.copy_from.Goals as goal

-- the slots from the place on, around the end, are a part of those held
pub returns : goal.returns
returns c =
    let q = c.self.inside in
    let capacity = vec_len q.slots in
    let n = length c.args.buf.now in
    let length_before = length-held q.slots.items capacity q.oldest q.len c.self.invariant in
    let bytes_before = ap (λ (ring : Ring). length ring.bytes) c.self.view_is in
    let inside : c.args.at + n ≤ q.len = omega arith in
    c.read_around.ensures ∙ rw (c.around_end.ensures, c.len.ensures, c.deref.ensures.value) (held_part q.slots.items capacity q.oldest q.len c.self.invariant c.args.at n inside
    ∙ ap (λ (ring : Ring). take n (drop c.args.at ring.bytes)) c.self.view_is)

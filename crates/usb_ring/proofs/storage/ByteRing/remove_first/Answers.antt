use Rattle.std.proofs.Common.{ℕ, ◌≤◌, List, ap, length, ◌∙◌, arith, vec_len}
use Rattle.usb_ring.specs.Ring.{Ring, without_first}
use Rattle.usb_ring.proofs.Window.{length-held, held_from_later}
use Rattle.usb_ring.proofs.storage.ByteRing.remove_first.Goals as goal

-- the bytes that stay begin n slots further on
pub returns : goal.returns
returns c =
    let q = c.self.inside in
    let capacity = vec_len q.slots in
    let as_ring : List ℕ → Ring = λ bytes. record { bytes = bytes; capacity = capacity } in
    let without : Ring → Ring = λ ring. without_first ring c.args.n in
    let length_before = length-held q.slots.items capacity q.oldest q.len c.self.invariant in
    let bytes_before = ap (λ (ring : Ring). length ring.bytes) c.self.view_is in
    let enough : c.args.n ≤ q.len = omega arith in
    rw (c.around_end-self-inside.ensures, c.len.ensures) (ap as_ring (held_from_later q.slots.items capacity q.oldest q.len c.self.invariant c.args.n enough) ∙ ap without c.self.view_is)

use Rattle.std.proofs.Common.{◌^◌, ◌≤◌, ◌<◌, ap, ◌∙◌, sym, arith, length}
use Rattle.std.proofs.lemmas.List.{length-replicate}
use Rattle.std.proofs.Math.Pow.{pow_mono}
use Rattle.std.proofs.lemmas.Nat.{pow_pos}
use Rattle.usb_ring.proofs.storage.ByteRing.new.Goals as goal

-- the slots are 2^log2, at least one and at most 4,096
pub invariant_of-result : goal.invariant_of-result
invariant_of-result c =
    let made = c.in_ok-slots.ensures in
    let some : 0 < 2 ^ c.args.log2 = pow_pos c.args.log2 in
    let few : 2 ^ c.args.log2 ≤ 2 ^ 12 = pow_mono c.requires in
    record {
      counted = ap length (made.items_if_clones_equal (λ y e. e)) ∙ length-replicate _ 0 ∙ sym made.len;
      starts_inside = omega (arith, made.len);
      fits = omega arith;
      small = omega (arith, made.len);
    }

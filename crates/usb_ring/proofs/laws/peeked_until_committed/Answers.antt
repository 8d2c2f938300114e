use Rattle.std.proofs.Common.{◌≤◌, ℕ, List, length, take, drop, ap, ◌∙◌, length-drop, arith}
use Rattle.std.proofs.lemmas.List.{take-append-le, drop-append-le, drop-drop}
use Rattle.usb_ring.specs.Ring.{number_of}
use Rattle.usb_ring.proofs.laws.peeked_until_committed.Goals as goal

pub returns : goal.returns
returns c = record {
  stays = λ ring new at n there.
      let inside : at ≤ length ring.bytes = omega arith in
      let enough : n ≤ length (drop at ring.bytes) = omega (arith, length-drop at ring.bytes) in
      ap (λ (bytes : List ℕ). number_of (take n bytes)) (drop-append-le at ring.bytes new inside) ∙ ap number_of (take-append-le n (drop at ring.bytes) new enough);
  moves = λ ring gone at n. ap (λ (bytes : List ℕ). number_of (take n bytes)) (drop-drop at gone ring.bytes);
}

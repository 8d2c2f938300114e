use Rattle.std.proofs.Common.{ℕ, List, get_or, Fits, w8, subst}
use Rattle.std.proofs.Math.Facts.{Fits-of_lt}
use Rattle.usb_descriptor.proofs.Served.{are_served}
use Rattle.usb_descriptor.proofs.laws.acceptance_serves.Goals as goal

pub returns : goal.returns
returns c =
    let small = λ (bytes : List ℕ). (i : ℕ) → Fits w8 (get_or bytes i 0) in
    let bytes = subst small c.config.ensures.value (λ i. Fits-of_lt (c.bytes_are_small.ensures i)) in
    λ limits. are_served c.args.set.now limits bytes

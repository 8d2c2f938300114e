-- The rings hold nothing.
use Rattle.usbd_core.proofs.Begins.{are_empty}
use Rattle.stack_tests.proofs.bench.Bench.new.Goals as goal

pub invariant_of-result : goal.invariant_of-result
invariant_of-result g c =
    let rings = c.empty_rings-rings.result in
    (c.init.ensures.sound rings (are_empty rings c.args.endpoints.now c.empty_rings-rings.ensures), c.init.ensures.spends.1)

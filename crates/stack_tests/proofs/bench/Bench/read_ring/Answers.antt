-- What is read leaves the ring.
use Rattle.std.proofs.Common.{sym, subst}
use Rattle.dwc2_regs.specs.declared.access.TheConstants.{FS4}
use Rattle.device_relation.specs.PipeRelation.{IsSound}
use Rattle.dwc2_device.specs.Driver.{joint}
use Rattle.stack_tests.proofs.Benches.{read_sound}
use Rattle.stack_tests.proofs.bench.Bench.read_ring.Goals as goal

pub invariant_of-self : goal.invariant_of-self
invariant_of-self c =
    let b = c.self.inside in
    (subst (λ r. IsSound FS4 (joint b.port) r) (sym c.read.ensures.removed) (read_sound (joint b.port) b.rings c.args.ep c.read.result c.self.invariant.0 c.requires.from c.requires.to), c.self.invariant.1)

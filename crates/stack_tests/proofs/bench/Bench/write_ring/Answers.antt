-- What is written comes behind what the ring holds.
use Rattle.std.proofs.Common.{◌≡◌, true, sym, subst}
use Rattle.dwc2_regs.specs.declared.access.TheConstants.{FS4}
use Rattle.device_relation.specs.PipeRelation.{IsSound}
use Rattle.dwc2_device.specs.Driver.{Driver, joint}
use Rattle.dwc2_device.specs.Calls.{is_open_at}
use Rattle.stack_tests.proofs.Benches.{write_sound}
use Rattle.stack_tests.proofs.bench.Bench.write_ring.Goals as goal

pub invariant_of-self : goal.invariant_of-self
invariant_of-self c =
    let b = c.self.inside in (
      subst (λ r. IsSound FS4 (joint b.port) r) (sym c.write.ensures.written)
          (write_sound (joint b.port) b.rings c.args.addr c.write.result c.args.bytes.now c.self.invariant.0 c.requires.from c.requires.to (subst (λ (d : Driver). is_open_at d.software c.args.addr ≡ true) (sym c.self.view_is) c.requires.open_) c.write.ensures.count c.below.ensures),
      c.self.invariant.1,
    )

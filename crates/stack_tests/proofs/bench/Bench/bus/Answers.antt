-- The law of bus events.
use Rattle.dwc2_device.specs.Driver.{joint}
use Rattle.stack_tests.proofs.Benches.{event_sound}
use Rattle.stack_tests.proofs.bench.Bench.bus.Goals as goal

pub invariant_of-self : goal.invariant_of-self
invariant_of-self c =
    let b = c.self.inside in
    let e = c.args.event.now in
    event_sound b.port c.regs.result.now c.bus.new.self b.rings e (c.bus_keeps.ensures (joint b.port) b.rings e c.self.invariant.0 c.event_fits.ensures) c.regs.ensures.value c.bus.ensures.after c.self.invariant.1

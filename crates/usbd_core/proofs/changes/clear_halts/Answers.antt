-- One more halt ends.
use Rattle.std.proofs.Common.{ap, ◌∙◌, arith, Bool, ℕ}
use Rattle.std.specs.Prelude.{slice_index_or}
use Rattle.usb_descriptor.specs.declared.endpoint.Endpoint.{Endpoint}
use Rattle.usb_descriptor.specs.declared.endpoint.EpKind.TheVariants.{Bulk}
use Rattle.usb_descriptor.specs.Set.{has_endpoint}
use Rattle.usb_packet.specs.declared.bus.Owner.TheVariants.{Core}
use Rattle.device_relation.specs.Port.{Port, port_of}
use Rattle.dwc2_device.specs.Driver.{joint}
use Rattle.usbd_core.specs.Task.{with_halt_ended_if, with_halts_ended}
use Rattle.usbd_core.proofs.Pipes.{one_cleared, taken_all}
use Rattle.usbd_core.proofs.changes.clear_halts.Goals as goal

pub loop-endpoint-preserved : goal.loop-endpoint-preserved
loop-endpoint-preserved g c =
    let none : Endpoint = record { addr = 0; kind = Bulk; size = 0; owner = Core } in
    let i = c.loop-endpoint.endpoint-index in
    let es = c.args.endpoints.now in
    let a : ℕ = (slice_index_or es i none).addr in
    let named : ℕ → Bool = has_endpoint c.args.set.now.config c.args.number in
    let mid : Port = port_of (joint c.loop-endpoint.port) c.loop-endpoint.rings in
    record {
      port = c.clear_if.ensures.port
          ∙ ap (λ b. with_halt_ended_if b mid a) c.has_endpoint-named.ensures
          ∙ ap (λ p. with_halt_ended_if (named a) p a) c.loop-endpoint.invariant.port
          ∙ one_cleared named (port_of (joint c.args.port.now) c.args.rings.now) es i none c.loop-endpoint-test.true;
      sound = c.clear_if.ensures.sound;
      spare = omega (arith, c.clear_if.ensures.spends.0, c.loop-endpoint.invariant.spare);
      still = c.clear_if.ensures.spends.1;
      goes = λ start m. c.clear_if.ensures.spends.2 start (c.loop-endpoint.invariant.goes start m);
      order = λ start k. c.clear_if.ensures.order start (c.loop-endpoint.invariant.order start k);
      capacities = c.clear_if.ensures.capacities ∙ c.loop-endpoint.invariant.capacities;
    }

pub returns-clause-port : goal.returns-clause-port
returns-clause-port g c =
    let es = c.args.endpoints.now in
    c.loop-endpoint.invariant.port
    ∙ ap (with_halts_ended (has_endpoint c.args.set.now.config c.args.number) (port_of (joint c.args.port.now) c.args.rings.now)) (taken_all es c.loop-endpoint.endpoint-index c.loop-endpoint-test.false)

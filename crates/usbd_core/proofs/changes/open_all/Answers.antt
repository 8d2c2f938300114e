-- One more is opened, and none of those before has its address.
use Rattle.std.proofs.Common.{arith, sym, ap, ◌∙◌, subst}
use Rattle.std.specs.Prelude.{slice_index_or, take}
use Rattle.usb_descriptor.specs.declared.endpoint.Endpoint.{Endpoint}
use Rattle.usb_descriptor.specs.declared.endpoint.EpKind.TheVariants.{Bulk}
use Rattle.usb_descriptor.specs.Served.{IsServed}
use Rattle.usb_packet.specs.declared.bus.Owner.TheVariants.{Core}
use Rattle.dwc2_regs.specs.declared.access.TheConstants.{FS4}
use Rattle.device_machine.specs.Pipes.{Pipes}
use Rattle.device_machine.specs.Laws.{AreOf}
use Rattle.device_machine.proofs.Opens.{opened_from}
use Rattle.device_relation.specs.Port.{Port, port_of, with_endpoint}
use Rattle.dwc2_device.specs.Driver.{joint}
use Rattle.usbd_core.specs.Device.{tops}
use Rattle.usbd_core.specs.Task.{with_endpoints}
use Rattle.usbd_core.proofs.Opens.{shut}
use Rattle.usbd_core.proofs.Pipes.{shut_of, one_opened, taken_all, each_at}
use Rattle.usbd_core.proofs.changes.open_all.Goals as goal

none : Endpoint
none = record { addr = 0; kind = Bulk; size = 0; owner = Core }

pub open_one-requires-clause-shut : goal.open_one-requires-clause-shut
unfolding none
open_one-requires-clause-shut g c =
    let i = c.loop-endpoint.endpoint-index in
    let es = c.args.endpoints.now in
    let next = slice_index_or es i none in
    let now : Pipes = (port_of (joint c.loop-endpoint.port) c.args.rings.now).pipes in
    let are = subst (AreOf (take i es)) (sym (ap (λ (p : Port). p.pipes) c.loop-endpoint.invariant.port)) (opened_from (take i es) (port_of (joint c.args.port.now) c.args.rings.now).pipes c.requires.shut) in
    shut_of (take i es) now next.addr are (each_at (IsServed (tops FS4)) es i none c.loop-endpoint-test.true c.requires.served.each).0 (shut es i none c.requires.served c.loop-endpoint-test.true)

pub open_one-requires-clause-served : goal.open_one-requires-clause-served
unfolding none
open_one-requires-clause-served g c = each_at (IsServed (tops FS4)) c.args.endpoints.now c.loop-endpoint.endpoint-index none c.loop-endpoint-test.true c.requires.served.each

pub loop-endpoint-preserved : goal.loop-endpoint-preserved
unfolding none
loop-endpoint-preserved g c =
    let i = c.loop-endpoint.endpoint-index in
    let es = c.args.endpoints.now in
    record {
      port = c.open_one.ensures.port ∙ ap (λ (p : Port). with_endpoint p (slice_index_or es i none)) c.loop-endpoint.invariant.port
          ∙ one_opened (port_of (joint c.args.port.now) c.args.rings.now) es i none c.loop-endpoint-test.true;
      sound = c.open_one.ensures.sound;
      spare = omega (arith, c.open_one.ensures.spends.0, c.loop-endpoint.invariant.spare);
      still = c.open_one.ensures.spends.1;
      goes = λ start m. c.open_one.ensures.spends.2 start (c.loop-endpoint.invariant.goes start m);
      order = λ start k. c.open_one.ensures.order start (c.loop-endpoint.invariant.order start k);
    }

pub returns-clause-port : goal.returns-clause-port
returns-clause-port g c =
    let es = c.args.endpoints.now in
    c.loop-endpoint.invariant.port ∙ ap (with_endpoints (port_of (joint c.args.port.now) c.args.rings.now)) (taken_all es c.loop-endpoint.endpoint-index c.loop-endpoint-test.false)

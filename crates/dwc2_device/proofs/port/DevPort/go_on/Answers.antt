-- Some packets are left.
use Rattle.std.proofs.Common.{◌≢◌, false, ℕ, List, ap, sym, ◌∙◌, arith}
use Rattle.device_table.specs.State.{Table}
use Rattle.device_rings.specs.Rings.{Rings, in_ring, with_in_ring}
use Rattle.endpoint_relation.specs.declared.in_.InEndpoint.{InEndpoint}
use Rattle.device_relation.specs.Run.{with_table}
use Rattle.access_order.specs.Phase.{at, fresh}
use Rattle.dwc2_device.specs.Driver.{joint}
use Rattle.dwc2_device.proofs.Loaded.{kept_on_some, bytes_on_some, goes_on_some, same_ring}
use Rattle.dwc2_device.proofs.InOrders.{goes_loaded}
use Rattle.dwc2_device.proofs.port.DevPort.go_on.Goals as goal

pub returns-clause-value : goal.returns-clause-value
returns-clause-value g c =
    let kept : InEndpoint = c.args.kept.now in
    ap (λ (n : ℕ). record kept { loaded = n }) c.min.ensures ∙ sym (kept_on_some kept.left kept c.if-kept-eq0.false)

pub returns-clause-joint : goal.returns-clause-joint
returns-clause-joint g c =
    let kept : InEndpoint = c.args.kept.now in
    let d = c.args.self.now in
    c.load_next.ensures.joint
    ∙ ap (λ (t : Table). with_table (joint d) t) (sym (goes_on_some kept.left c.args.number kept (in_ring c.args.rings.now c.args.number).bytes d.bank.table c.if-kept-eq0.false))

pub returns-clause-rings : goal.returns-clause-rings
returns-clause-rings g c =
    let kept : InEndpoint = c.args.kept.now in
    let r : Rings = c.args.rings.now in
    let n : ℕ = c.args.number in
    sym (ap (λ (bytes : List ℕ). with_in_ring r n (record (in_ring r n) { bytes = bytes })) (bytes_on_some kept.left kept (in_ring r n).bytes c.if-kept-eq0.false) ∙ same_ring r n)

pub returns-clause-order : goal.returns-clause-order
returns-clause-order g c =
    let n = c.args.number in
    let kept : InEndpoint = c.args.kept.now in
    let some : c.min.result ≢ 0 = λ e. c.if-kept-eq0.false (omega (arith, e, c.min.ensures)) in
    goes_loaded c.args.self.now c.load_next.new.self n (at n n (fresh false)) (record kept { loaded = c.min.result }) c.requires.running some c.load_next.ensures.order

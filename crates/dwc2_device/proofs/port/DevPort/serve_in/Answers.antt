-- Registers, what is kept, and the ring.
use Rattle.std.proofs.Common.{ℕ, Bool, List, ap, ◌∙◌}
use Rattle.dwc2_regs.specs.declared.TheConstants.{DIEPINT_XFRC}
use Rattle.dwc2_regs.specs.Register.{diepint}
use Rattle.device_table.specs.State.{Table}
use Rattle.device_table.specs.Words.{flag}
use Rattle.device_table.specs.Read.{value_read}
use Rattle.device_rings.specs.Rings.{Rings, in_ring, with_in_ring}
use Rattle.endpoint_relation.specs.declared.in_.InEndpoint.{InEndpoint}
use Rattle.endpoint_relation.specs.InTable.{served_at}
use Rattle.device_relation.specs.Software.{Software, Joint, with_in_kept}
use Rattle.device_relation.specs.Run.{Whole}
use Rattle.dwc2_device.specs.Driver.{whole}
use Rattle.dwc2_device.specs.Serves.{kept_served, bytes_served}
use Rattle.dwc2_device.proofs.Kept.{kept_in}
use Rattle.dwc2_device.proofs.Loaded.{served_is}
use Rattle.dwc2_device.proofs.Ordered.{same_ins}
use Rattle.dwc2_device.proofs.InOrders.{serves}
use Rattle.dwc2_device.proofs.port.DevPort.serve_in.Goals as goal

pub returns-clause-whole : goal.returns-clause-whole
returns-clause-whole g c =
    let d = c.args.self.now in
    let n : ℕ = c.args.number in
    let t : Table = d.bank.table in
    let s : Software = d.software in
    let r : Rings = c.args.rings.now in
    let ring : List ℕ = (in_ring r n).bytes in
    let kept : InEndpoint = c.in_kept-kept.result in
    let seen : Bool = flag (value_read t (diepint n)) DIEPINT_XFRC in
    let served : Table = served_at kept.state n kept ring t in
    let Made : InEndpoint → Whole = λ k. record {
      joint = record { table = served_at k.state n k ring t; software = with_in_kept s n (kept_served k.state seen k) };
      rings = with_in_ring r n (record (in_ring r n) { bytes = bytes_served k.state seen k ring });
    } in
    ap (λ (j : Joint). record { joint = j; rings = c.serve_kept-after.new.rings }) (kept_in d c.serve_kept-after.new.self c.keep_in.new.self n served c.serve_kept-after.result c.keep_in.ensures c.serve_kept-after.ensures.joint)
    ∙ ap (λ (k : InEndpoint). record { joint = record { table = served; software = with_in_kept s n k }; rings = c.serve_kept-after.new.rings }) c.serve_kept-after.ensures.value
    ∙ ap (λ (x : Rings). record { joint = record { table = served; software = with_in_kept s n (kept_served kept.state seen kept) }; rings = x }) c.serve_kept-after.ensures.rings
    ∙ ap Made c.in_kept-kept.ensures
    ∙ served_is (whole d r) n c.requires.from c.requires.to c.requires.ends

pub returns-clause-order : goal.returns-clause-order
returns-clause-order g c =
    let d = c.args.self.now in
    let n : ℕ = c.args.number in
    let t : Table = d.bank.table in
    let kept : InEndpoint = c.in_kept-kept.result in
    let same = same_ins d c.serve_kept-after.new.self (served_at kept.state n kept (in_ring c.args.rings.now n).bytes t) c.serve_kept-after.ensures.joint in
    serves d c.serve_kept-after.new.self c.keep_in.new.self n kept c.serve_kept-after.result (flag (value_read t (diepint n)) DIEPINT_XFRC) c.requires.from c.requires.to c.in_kept-kept.ensures same
    c.keep_in.ensures c.serve_kept-after.ensures.value c.serve_kept-after.ensures.order

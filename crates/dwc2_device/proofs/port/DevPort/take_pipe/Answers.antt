-- The end of the packet is still the next to be popped.
use Rattle.std.proofs.Common.{◌≡◌, ap, sym, ◌∙◌, subst}
use Rattle.device_relation.specs.Run.{Whole}
use Rattle.dwc2_device.specs.Driver.{whole}
use Rattle.dwc2_device.specs.Standing.{EndsAt}
use Rattle.dwc2_device.proofs.Ends.{first_of, unless_leaves}
use Rattle.dwc2_device.proofs.port.DevPort.take_pipe.Goals as goal

pub end_packet-requires-clause-ends : goal.end_packet-requires-clause-ends
end_packet-requires-clause-ends g c =
    let w = whole c.args.self.now c.args.rings.now in
    let same : first_of c.move_unless.new.self.bank.table ≡ first_of w.joint.table =
    ap (λ (x : Whole). first_of x.joint.table) c.move_unless.ensures.whole ∙ unless_leaves c.out_kept-kept.result.over w c.args.number c.args.bytes in
    subst (EndsAt c.args.number) (sym same) c.requires.ends

-- The lines that load.
use Rattle.std.proofs.Common.{ℕ, List, refl, ap, ◌∙◌, arith}
use Rattle.dwc2_regs.specs.Register.{diepctl}
use Rattle.device_table.specs.State.{Table}
use Rattle.device_table.specs.Write.{after_write}
use Rattle.device_rings.specs.Rings.{in_ring}
use Rattle.endpoint_relation.specs.InWords.{in_snak_epena, in_cnak}
use Rattle.endpoint_relation.specs.InPackets.{placed_packets}
use Rattle.endpoint_relation.specs.InSteps.{control_with}
use Rattle.endpoint_relation.specs.InTable.{packets_at}
use Rattle.device_relation.specs.Software.{Joint}
use Rattle.device_relation.specs.Run.{with_table}
use Rattle.dwc2_device.specs.Driver.{joint}
use Rattle.dwc2_device.proofs.Loaded.{loaded_is}
use Rattle.dwc2_device.proofs.port.DevPort.load_next.Goals as goal

pub returns-clause-joint : goal.returns-clause-joint
returns-clause-joint g c =
    let j0 : Joint = joint c.args.self.now in
    let n : ℕ = c.args.number in
    let kept = c.args.kept.now in
    let ring : List ℕ = (in_ring c.args.rings.now n).bytes in
    let packets = placed_packets kept.left kept ring in
    let Acts : ℕ → Joint → Joint = λ acts j. with_table j (after_write j.table (diepctl n) (control_with n kept acts)) in
    let Packets : Joint → Joint = λ j. with_table j (packets_at n j.table packets) in
    c.write_in_base-2.ensures.joint
    ∙ ap (Acts in_cnak) c.load_packets.ensures.joint
    ∙ ap (λ (j : Joint). Acts in_cnak (Packets j)) c.write_in_base.ensures.joint
    ∙ ap (λ (j : Joint). Acts in_cnak (Packets (Acts in_snak_epena j))) c.write_in_size.ensures.joint
    ∙ ap (λ (t : Table). with_table j0 t) (loaded_is n j0.table kept ring c.requires.transfer)

pub returns-clause-spends : goal.returns-clause-spends
returns-clause-spends g c = (
  omega (arith, c.write_in_size.ensures.spends.0, c.write_in_base.ensures.spends.0, c.load_packets.ensures.spends.0, c.write_in_base-2.ensures.spends.0),
  c.write_in_base-2.ensures.spends.1,
  λ start m. c.write_in_base-2.ensures.spends.2 start (c.load_packets.ensures.spends.2 start (c.write_in_base.ensures.spends.2 start (c.write_in_size.ensures.spends.2 start m))),
)

pub returns-clause-order : goal.returns-clause-order
returns-clause-order g c start k =
    c.write_in_base-2.ensures.answers refl start (c.load_packets.ensures.order start (c.write_in_base.ensures.enables refl start (c.write_in_size.ensures.order start k)))

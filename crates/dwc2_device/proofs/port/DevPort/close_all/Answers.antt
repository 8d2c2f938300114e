-- Controller, software and rings agree after the call.
use Rattle.device_rings.specs.Capacities.{capacities_of}
use Rattle.device_rings.proofs.Capacities.{without_bytes}
use Rattle.std.proofs.Common.{ap, sym, ◌∙◌, arith, subst}
use Rattle.device_relation.specs.Software.{Joint}
use Rattle.device_relation.specs.Port.{port_of, without_endpoints}
use Rattle.device_rings.specs.Rings.{Rings}
use Rattle.device_relation.proofs.Runs.{Ends}
use Rattle.dwc2_device.specs.Driver.{joint}
use Rattle.dwc2_device.specs.Writes.{closes_in}
use Rattle.dwc2_device.proofs.Closed.{close_ends}
use Rattle.dwc2_device.proofs.port.DevPort.close_all.Goals as goal

pub returns-clause-port : goal.returns-clause-port
returns-clause-port g c =
    (subst (λ (x : Rings). Ends (joint c.close_ins.new.self) x (without_endpoints (port_of (joint c.args.self.now) c.args.rings.now))) (sym c.clear_all.ensures)
    (close_ends (joint c.args.self.now) (joint c.close_ins.new.self) c.args.rings.now c.requires.sound
    (c.close_ins.ensures.joint ∙ ap (λ (j : Joint). closes_in (closes_in (closes_in j 1) 2) 3) c.close_outs.ensures.joint))).port

pub returns-clause-sound : goal.returns-clause-sound
returns-clause-sound g c =
    (subst (λ (x : Rings). Ends (joint c.close_ins.new.self) x (without_endpoints (port_of (joint c.args.self.now) c.args.rings.now))) (sym c.clear_all.ensures)
    (close_ends (joint c.args.self.now) (joint c.close_ins.new.self) c.args.rings.now c.requires.sound
    (c.close_ins.ensures.joint ∙ ap (λ (j : Joint). closes_in (closes_in (closes_in j 1) 2) 3) c.close_outs.ensures.joint))).sound

pub returns-clause-spends : goal.returns-clause-spends
returns-clause-spends g c = (
  omega (arith, c.close_outs.ensures.spends.0, c.close_ins.ensures.spends.0),
  c.close_ins.ensures.spends.1,
  λ start m. c.close_ins.ensures.spends.2 start (c.close_outs.ensures.spends.2 start m),
)

pub returns-clause-capacities : goal.returns-clause-capacities
returns-clause-capacities g c = ap capacities_of c.clear_all.ensures ∙ without_bytes c.args.rings.now

-- One after another.
use Rattle.std.proofs.Common.{ap, ◌∙◌, arith}
use Rattle.device_relation.specs.Software.{Joint}
use Rattle.dwc2_device.specs.Writes.{closes_in}
use Rattle.dwc2_device.proofs.port.DevPort.close_ins.Goals as goal

pub returns-clause-joint : goal.returns-clause-joint
returns-clause-joint g c =
    c.close_in-3.ensures.joint ∙ ap (λ (j : Joint). closes_in j 3) c.close_in-2.ensures.joint ∙ ap (λ (j : Joint). closes_in (closes_in j 2) 3) c.close_in.ensures.joint

pub returns-clause-spends : goal.returns-clause-spends
returns-clause-spends g c = (
  omega (arith, c.close_in.ensures.spends.0, c.close_in-2.ensures.spends.0, c.close_in-3.ensures.spends.0),
  c.close_in-3.ensures.spends.1,
  λ start m. c.close_in-3.ensures.spends.2 start (c.close_in-2.ensures.spends.2 start (c.close_in.ensures.spends.2 start m)),
)

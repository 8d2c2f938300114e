-- The IN endpoints agree with their pipes all the way.
use Rattle.std.proofs.Common.{sym, subst}
use Rattle.device_relation.specs.Software.{Joint}
use Rattle.dwc2_device.specs.Driver.{whole}
use Rattle.dwc2_device.specs.Standing.{InsStand}
use Rattle.dwc2_device.proofs.Arrivals.{loaded_stand}
use Rattle.dwc2_device.proofs.port.DevPort.serve_rest.Goals as goal

pub serve_ins-requires-clause-stand : goal.serve_ins-requires-clause-stand
serve_ins-requires-clause-stand g c =
    subst (λ (j : Joint). InsStand (record { joint = j; rings = c.take_arrivals.new.rings })) (sym c.load_waiting.ensures.joint)
    (loaded_stand (whole c.take_arrivals.new.self c.take_arrivals.new.rings) c.take_arrivals.ensures.stand)

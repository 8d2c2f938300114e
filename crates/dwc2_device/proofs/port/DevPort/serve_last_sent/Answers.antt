-- What was acknowledged is noted, and all stands for a device.
use Rattle.std.proofs.Common.{sym, subst}
use Rattle.device_relation.specs.Software.{Joint}
use Rattle.dwc2_device.specs.Driver.{whole}
use Rattle.dwc2_device.specs.Standing.{IsStanding}
use Rattle.dwc2_device.proofs.Arrivals.{last_stands}
use Rattle.dwc2_device.proofs.port.DevPort.serve_last_sent.Goals as goal

pub serve_rest-requires-clause-standing : goal.serve_rest-requires-clause-standing
serve_rest-requires-clause-standing g c =
    subst (λ (j : Joint). IsStanding (record { joint = j; rings = c.args.rings.now })) (sym c.note_last.ensures.joint)
    (last_stands (whole c.args.self.now c.args.rings.now) c.requires.standing c.requires.side c.requires.found)

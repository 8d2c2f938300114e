-- An open pipe has a number, and its ring keeps its room.
use Rattle.std.proofs.Common.{◌∙◌, ap, []}
use Rattle.device_relation.specs.Port.{port_of}
use Rattle.dwc2_device.specs.Driver.{joint}
use Rattle.device_rings.specs.Capacities.{capacities_of}
use Rattle.device_rings.proofs.Capacities.{with_at}
use Rattle.usbd_core.proofs.Shows.{out_numbered, out_open_at}
use Rattle.usbd_core.proofs.calls.drop_out.Goals as goal

pub drop_all-requires-clause-numbered : goal.drop_all-requires-clause-numbered
drop_all-requires-clause-numbered g c = out_numbered (port_of (joint c.args.port.now) c.args.rings.now).pipes c.args.rings.now c.args.number c.requires.receiver c.requires.open

pub drop_all-requires-clause-open_ : goal.drop_all-requires-clause-open_
drop_all-requires-clause-open_ g c = out_open_at (joint c.args.port.now) c.args.rings.now c.args.number c.requires.sound c.requires.receiver.to ∙ c.requires.open

pub returns-clause-capacities : goal.returns-clause-capacities
returns-clause-capacities g c = ap capacities_of c.drop_all.ensures.rings ∙ with_at c.args.rings.now c.args.number []

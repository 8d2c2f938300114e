-- An open pipe has a number, and its ring keeps its room.
use Rattle.std.proofs.Common.{◌∙◌, ◌+◌, ap, []}
use Rattle.device_relation.specs.Port.{port_of}
use Rattle.dwc2_device.specs.Driver.{joint}
use Rattle.device_rings.specs.Capacities.{capacities_of}
use Rattle.device_rings.proofs.Capacities.{with_at}
use Rattle.usbd_core.proofs.Shows.{in_numbered, in_open_at}
use Rattle.usbd_core.proofs.calls.drop_in.Goals as goal

pub drop_all-requires-clause-numbered : goal.drop_all-requires-clause-numbered
drop_all-requires-clause-numbered g c = in_numbered (port_of (joint c.args.port.now) c.args.rings.now).pipes c.args.rings.now c.args.number c.requires.sender c.requires.open

pub drop_all-requires-clause-open_ : goal.drop_all-requires-clause-open_
drop_all-requires-clause-open_ g c = in_open_at (joint c.args.port.now) c.args.rings.now c.args.number c.requires.sound ∙ c.requires.open

pub returns-clause-capacities : goal.returns-clause-capacities
returns-clause-capacities g c = ap capacities_of c.drop_all.ensures.rings ∙ with_at c.args.rings.now (128 + c.args.number) []

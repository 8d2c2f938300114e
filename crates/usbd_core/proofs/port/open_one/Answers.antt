-- The call keeps what holds of controller, software and these rings.
use Rattle.std.proofs.Common.{sym, ◌∙◌}
use Rattle.dwc2_device.specs.Driver.{joint}
use Rattle.dwc2_device.proofs.Shut.{open_at_is}
use Rattle.usbd_core.proofs.port.open_one.Goals as goal

pub open_ep-requires-clause-shut : goal.open_ep-requires-clause-shut
open_ep-requires-clause-shut g c = sym (open_at_is (joint c.args.port.now) c.args.rings.now c.args.endpoint.now.addr c.requires.sound) ∙ c.requires.shut

pub open_ep-requires-clause-numbered : goal.open_ep-requires-clause-numbered
open_ep-requires-clause-numbered g c = c.requires.served.0

pub returns-clause-port : goal.returns-clause-port
returns-clause-port g c = (c.open_ep.ensures.keeps c.args.rings.now c.requires.sound).1

pub returns-clause-sound : goal.returns-clause-sound
returns-clause-sound g c = (c.open_ep.ensures.keeps c.args.rings.now c.requires.sound).0

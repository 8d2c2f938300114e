-- The law.
use Rattle.usbd_core.proofs.Events.{bus_keeps}
use Rattle.usbd_core.proofs.laws.bus_keeps.Goals as goal

pub returns : goal.returns
returns c = bus_keeps

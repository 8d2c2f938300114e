-- The halt is shown, or not.
use Rattle.std.proofs.Common.{refl}
use Rattle.dwc2_device.proofs.port.DevPort.show_in_halt.Goals as goal

pub returns-clause-order : goal.returns-clause-order
returns-clause-order g c b = c.write_in_base.ensures.stays b refl

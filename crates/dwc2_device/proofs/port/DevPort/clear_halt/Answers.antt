-- Where no endpoint is open nothing changes.
use Rattle.std.proofs.Common.{sym, ◌∙◌}
use Rattle.dwc2_device.specs.Driver.{joint}
use Rattle.dwc2_device.proofs.Shut.{clear_none}
use Rattle.dwc2_device.proofs.port.DevPort.clear_halt.Goals as goal

pub returns-else-is_open_at-clause-port : goal.returns-else-is_open_at-clause-port
returns-else-is_open_at-clause-port g c = clear_none (joint c.args.self.now) c.args.rings.now c.args.addr c.requires.sound (sym c.is_open_at.ensures.value ∙ c.if-is_open_at.false)

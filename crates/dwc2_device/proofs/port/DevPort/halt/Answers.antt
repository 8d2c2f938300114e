-- Where no endpoint is open nothing changes.
use Rattle.std.proofs.Common.{sym, ◌∙◌}
use Rattle.dwc2_device.specs.Driver.{joint}
use Rattle.dwc2_device.proofs.Shut.{halt_none}
use Rattle.dwc2_device.proofs.port.DevPort.halt.Goals as goal

pub returns-else-is_open_at-clause-keeps : goal.returns-else-is_open_at-clause-keeps
returns-else-is_open_at-clause-keeps g c = halt_none (joint c.args.self.now) c.args.addr (sym c.is_open_at.ensures.value ∙ c.if-is_open_at.false)

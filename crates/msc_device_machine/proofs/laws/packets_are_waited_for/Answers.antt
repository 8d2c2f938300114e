use Rattle.msc_device_machine.proofs.Pipes.{packets_are_waited_for}
use Rattle.msc_device_machine.proofs.laws.packets_are_waited_for.Goals as goal

pub returns : goal.returns
returns c = packets_are_waited_for

use Rattle.msc_device_machine.proofs.Named.{blocks_are_named}
use Rattle.msc_device_machine.proofs.laws.blocks_are_named.Goals as goal

pub returns : goal.returns
returns c = blocks_are_named

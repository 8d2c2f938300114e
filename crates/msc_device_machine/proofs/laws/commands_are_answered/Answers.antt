use Rattle.msc_device_machine.proofs.BlockRuns.{data_is_right, status_is_right}
use Rattle.msc_device_machine.proofs.laws.commands_are_answered.Goals as goal

pub returns-clause-data : goal.returns-clause-data
returns-clause-data c = data_is_right

pub returns-clause-status : goal.returns-clause-status
returns-clause-status c = status_is_right

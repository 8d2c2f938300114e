use Rattle.msc_device_machine.proofs.Faults.{one_call, faults_are_told}
use Rattle.msc_device_machine.proofs.laws.disk_is_asked_once.Goals as goal

pub returns-clause-once : goal.returns-clause-once
returns-clause-once c = one_call

pub returns-clause-faults : goal.returns-clause-faults
returns-clause-faults c = faults_are_told

use Rattle.hid_device_machine.proofs.Requests.{idle_is_told, protocol_is_told}
use Rattle.hid_device_machine.proofs.laws.settings_are_told.Goals as goal

pub returns-clause-idle : goal.returns-clause-idle
returns-clause-idle c = idle_is_told

pub returns-clause-protocol : goal.returns-clause-protocol
returns-clause-protocol c = protocol_is_told

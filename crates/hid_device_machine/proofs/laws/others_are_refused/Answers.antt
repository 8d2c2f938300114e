use Rattle.hid_device_machine.proofs.Requests.{others_are_refused, setup_keeps}
use Rattle.hid_device_machine.proofs.laws.others_are_refused.Goals as goal

pub returns-clause-listed : goal.returns-clause-listed
returns-clause-listed c = others_are_refused

pub returns-clause-keeps : goal.returns-clause-keeps
returns-clause-keeps c = setup_keeps

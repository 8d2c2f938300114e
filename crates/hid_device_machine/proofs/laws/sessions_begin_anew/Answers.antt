use Rattle.hid_device_machine.proofs.Requests.{begins_anew}
use Rattle.hid_device_machine.proofs.laws.sessions_begin_anew.Goals as goal

pub returns : goal.returns
returns c = begins_anew

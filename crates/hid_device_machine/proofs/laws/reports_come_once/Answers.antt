use Rattle.hid_device_machine.proofs.Sessions.{reports_come_once}
use Rattle.hid_device_machine.proofs.laws.reports_come_once.Goals as goal

pub returns : goal.returns
returns c = reports_come_once

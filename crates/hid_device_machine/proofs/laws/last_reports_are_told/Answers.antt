use Rattle.hid_device_machine.proofs.Requests.{last_report_is_told}
use Rattle.hid_device_machine.proofs.laws.last_reports_are_told.Goals as goal

pub returns-clause-last : goal.returns-clause-last
returns-clause-last c = last_report_is_told

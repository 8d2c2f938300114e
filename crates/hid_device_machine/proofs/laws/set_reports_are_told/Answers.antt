use Rattle.hid_device_machine.proofs.Requests.{set_report_is_told, other_data_is_refused}
use Rattle.hid_device_machine.proofs.laws.set_reports_are_told.Goals as goal

pub returns-clause-told : goal.returns-clause-told
returns-clause-told c = set_report_is_told

pub returns-clause-refused : goal.returns-clause-refused
returns-clause-refused c = other_data_is_refused

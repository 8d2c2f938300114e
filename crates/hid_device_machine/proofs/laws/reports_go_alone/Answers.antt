use Rattle.hid_device_machine.proofs.Alone.{reports_go_alone, reports_start}
use Rattle.hid_device_machine.proofs.laws.reports_go_alone.Goals as goal

pub returns-clause-alone : goal.returns-clause-alone
returns-clause-alone c = reports_go_alone

pub returns-clause-start : goal.returns-clause-start
returns-clause-start c = reports_start

use Rattle.hid_device_machine.proofs.Calls.{reports_are_answered, refused_reports_do_nothing}
use Rattle.hid_device_machine.proofs.laws.reports_are_answered.Goals as goal

pub returns-clause-answers : goal.returns-clause-answers
returns-clause-answers c = reports_are_answered

pub returns-clause-refused : goal.returns-clause-refused
returns-clause-refused c = refused_reports_do_nothing

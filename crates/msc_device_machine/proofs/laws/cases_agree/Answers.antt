use Rattle.msc_device_machine.proofs.Table.{cases_agree, moves_no_more, halts_what_is_due}
use Rattle.msc_device_machine.proofs.laws.cases_agree.Goals as goal

pub returns-clause-agree : goal.returns-clause-agree
returns-clause-agree c = cases_agree

pub returns-clause-no_more : goal.returns-clause-no_more
returns-clause-no_more c = moves_no_more

pub returns-clause-due : goal.returns-clause-due
returns-clause-due c = halts_what_is_due

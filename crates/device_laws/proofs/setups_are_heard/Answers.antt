use Rattle.device_laws.proofs.Seen.{others_are_ignored, setup_is_heard, busy_answers_nak}
use Rattle.device_laws.proofs.setups_are_heard.Goals as goal

pub returns-clause-ignored : goal.returns-clause-ignored
returns-clause-ignored g c = λ world of_set. others_are_ignored world of_set

pub returns-clause-setup : goal.returns-clause-setup
returns-clause-setup g c = λ world of_set. setup_is_heard world of_set

pub returns-clause-busy : goal.returns-clause-busy
returns-clause-busy g c = λ world of_set. busy_answers_nak world of_set

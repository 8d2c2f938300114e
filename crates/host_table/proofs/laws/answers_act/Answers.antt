use Rattle.host_table.proofs.AnswerLemmas.{answers_act}
use Rattle.host_table.proofs.laws.answers_act.Goals as goal

pub returns : goal.returns
returns c = answers_act

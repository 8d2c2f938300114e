use Rattle.device_machine.proofs.Apart.{apart, moves, answers_are, answers_token, serves}
use Rattle.device_machine.proofs.laws.endpoints_apart.Goals as goal

pub returns : goal.returns
returns c = record { others = apart; moves = moves; answers = answers_are; answers_token = answers_token; serves = serves }

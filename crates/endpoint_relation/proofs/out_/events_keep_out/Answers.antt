-- The laws.
use Rattle.endpoint_relation.proofs.OutEvents.{out_events, out_answers}
use Rattle.endpoint_relation.proofs.out_.events_keep_out.Goals as goal

pub returns-clause-keeps : goal.returns-clause-keeps
returns-clause-keeps c = out_events

pub returns-clause-answers : goal.returns-clause-answers
returns-clause-answers c = out_answers

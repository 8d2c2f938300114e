use Rattle.device_pipe.proofs.Refused.{stale_refuses, over_refuses, rests, silent, in_silent}
use Rattle.device_pipe.proofs.laws.opened_and_closed.Goals as goal

pub returns-clause-silent : goal.returns-clause-silent
returns-clause-silent c = silent

pub returns-clause-in_silent : goal.returns-clause-in_silent
returns-clause-in_silent c = in_silent

pub returns-clause-stale : goal.returns-clause-stale
returns-clause-stale c = stale_refuses

pub returns-clause-over : goal.returns-clause-over
returns-clause-over c = over_refuses

pub returns-clause-rests : goal.returns-clause-rests
returns-clause-rests c = rests

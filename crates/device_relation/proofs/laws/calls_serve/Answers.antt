-- The laws, endpoint by endpoint.
use Rattle.device_relation.proofs.CallLaws.{serves_zero, serves_out, serves_in, closes}
use Rattle.device_relation.proofs.laws.calls_serve.Goals as goal

pub returns-clause-zero : goal.returns-clause-zero
returns-clause-zero c = serves_zero

pub returns-clause-outs : goal.returns-clause-outs
returns-clause-outs c = serves_out

pub returns-clause-ins : goal.returns-clause-ins
returns-clause-ins c = serves_in

pub returns-clause-session : goal.returns-clause-session
returns-clause-session c = closes

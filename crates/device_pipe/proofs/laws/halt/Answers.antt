use Rattle.device_pipe.proofs.Refused.{halt_stalls, in_halt_stalls}
use Rattle.device_pipe.proofs.laws.halt.Goals as goal

pub returns-clause-out_stalls : goal.returns-clause-out_stalls
returns-clause-out_stalls c = halt_stalls

pub returns-clause-in_stalls : goal.returns-clause-in_stalls
returns-clause-in_stalls c = in_halt_stalls

use Rattle.device_arrivals.proofs.Tells.{tells, own}
use Rattle.device_arrivals.proofs.laws.entries_tell.Goals as goal

pub returns-clause-tells : goal.returns-clause-tells
returns-clause-tells c = tells

pub returns-clause-own : goal.returns-clause-own
returns-clause-own c = own

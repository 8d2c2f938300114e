use Rattle.device_arrivals.proofs.Behind.{lands, requested}
use Rattle.device_arrivals.proofs.laws.what_comes_lies_behind.Goals as goal

pub returns-clause-packet : goal.returns-clause-packet
returns-clause-packet c = lands

pub returns-clause-request : goal.returns-clause-request
returns-clause-request c = requested

use Rattle.device_arrivals.proofs.Comes.{request_comes}
use Rattle.device_arrivals.proofs.laws.requests_come_out.Goals as goal

pub returns : goal.returns
returns c = request_comes

use Rattle.device_arrivals.proofs.Counts.{is_counted}
use Rattle.device_arrivals.proofs.laws.arrivals_are_few.Goals as goal

pub returns : goal.returns
returns c = is_counted

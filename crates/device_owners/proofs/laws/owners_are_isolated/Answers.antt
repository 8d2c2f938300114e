use Rattle.device_owners.proofs.Along.{isolates}
use Rattle.device_owners.proofs.laws.owners_are_isolated.Goals as goal

pub returns : goal.returns
returns g c = λ world limits served grouped. isolates world limits served grouped

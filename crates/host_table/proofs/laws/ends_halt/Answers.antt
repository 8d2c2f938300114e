use Rattle.host_table.proofs.BusLemmas.{ends_halt}
use Rattle.host_table.proofs.laws.ends_halt.Goals as goal

pub returns : goal.returns
returns c = ends_halt

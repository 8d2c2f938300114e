use Rattle.host_table.proofs.BusLemmas.{bus_leaves_others}
use Rattle.host_table.proofs.laws.bus_leaves_others.Goals as goal

pub returns : goal.returns
returns c = bus_leaves_others

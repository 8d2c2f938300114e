use Rattle.host_table.proofs.BusLemmas.{nak_leaves}
use Rattle.host_table.proofs.laws.nak_leaves_packet.Goals as goal

pub returns : goal.returns
returns c = nak_leaves

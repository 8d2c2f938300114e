use Rattle.host_table.proofs.CountLemmas.{one_packet_each}
use Rattle.host_table.proofs.laws.one_packet_each.Goals as goal

pub returns : goal.returns
returns c = one_packet_each

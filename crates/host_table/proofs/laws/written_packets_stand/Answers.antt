use Rattle.host_table.proofs.WindowLemmas.{written_stands}
use Rattle.host_table.proofs.laws.written_packets_stand.Goals as goal

pub returns-clause-packet : goal.returns-clause-packet
returns-clause-packet c = written_stands

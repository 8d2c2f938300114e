-- The law.
use Rattle.endpoint_relation.proofs.OutPackets.{out_packet}
use Rattle.endpoint_relation.proofs.out_.bus_keeps_out.Goals as goal

pub returns : goal.returns
returns c = out_packet

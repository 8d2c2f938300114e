use Rattle.endpoint_relation.proofs.InNext.{next_are, packet_count}
use Rattle.endpoint_relation.proofs.in_.packets.Goals as goal

pub returns : goal.returns
returns c = record { next = next_are; count = packet_count }

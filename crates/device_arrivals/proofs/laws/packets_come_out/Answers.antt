use Rattle.device_arrivals.proofs.Comes.{packet_comes}
use Rattle.device_arrivals.proofs.laws.packets_come_out.Goals as goal

pub returns : goal.returns
returns c = packet_comes

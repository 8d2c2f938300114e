use Rattle.dwc2_fifo.proofs.LawLemmas.{packet_comes_out}
use Rattle.dwc2_fifo.proofs.laws.packets_come_out.Goals as goal

pub returns : goal.returns
returns c = packet_comes_out

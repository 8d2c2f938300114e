use Rattle.device_pipe.proofs.Moves.{out_cycle, starts_sending, loads_two, loads_one, keeps_pace, ends}
use Rattle.device_pipe.proofs.laws.moves_packets.Goals as goal

pub returns : goal.returns
returns c = record { takes = out_cycle; first = starts_sending; two = loads_two; one = loads_one; pace = keeps_pace; ends = ends }

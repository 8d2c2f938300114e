use Rattle.device_pipe.proofs.Worked.{over, told, noted, moved, out_told, out_noted}
use Rattle.device_pipe.proofs.laws.halted_or_not.Goals as goal

pub returns : goal.returns
returns c = record { over = over; told = told; noted = noted; moved = moved; out_told = out_told; out_noted = out_noted }

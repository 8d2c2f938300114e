use Rattle.device_pipe.proofs.Refused.{none_taken, naks, halted_rests}
use Rattle.device_pipe.proofs.laws.only_a_task_arms.Goals as goal

pub returns : goal.returns
returns c = record { refused = none_taken; nak = naks; halted = halted_rests }

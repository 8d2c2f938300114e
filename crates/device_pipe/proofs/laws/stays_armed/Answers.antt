use Rattle.device_pipe.proofs.Armed.{acknowledges, takes}
use Rattle.device_pipe.proofs.laws.stays_armed.Goals as goal

pub returns : goal.returns
returns c = record { acknowledges = acknowledges; takes = takes }

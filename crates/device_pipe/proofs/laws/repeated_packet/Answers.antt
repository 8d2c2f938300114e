use Rattle.device_pipe.proofs.Refused.{acknowledges, other_toggle, held_once}
use Rattle.device_pipe.proofs.Armed.{once_in_events}
use Rattle.device_pipe.proofs.laws.repeated_packet.Goals as goal

pub returns : goal.returns
returns c = record { acknowledged = acknowledges; dropped = other_toggle; once = held_once; once_in_events = once_in_events }

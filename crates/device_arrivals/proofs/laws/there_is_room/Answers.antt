use Rattle.device_arrivals.proofs.Counts.{has_room}
use Rattle.device_arrivals.proofs.laws.there_is_room.Goals as goal

pub returns : goal.returns
returns c = has_room

use Rattle.midi_device_machine.proofs.Sessions.{session_carries}
use Rattle.midi_device_machine.proofs.laws.streams_are_carried.Goals as goal

pub returns : goal.returns
returns c = session_carries

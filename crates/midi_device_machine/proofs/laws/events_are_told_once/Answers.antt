use Rattle.midi_device_machine.proofs.Sessions.{session_tells}
use Rattle.midi_device_machine.proofs.laws.events_are_told_once.Goals as goal

pub returns : goal.returns
returns c = session_tells

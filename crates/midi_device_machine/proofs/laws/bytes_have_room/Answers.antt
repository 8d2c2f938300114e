use Rattle.midi_device_machine.proofs.Calls.{takes_what_has_room}
use Rattle.midi_device_machine.proofs.laws.bytes_have_room.Goals as goal

pub returns : goal.returns
returns c = takes_what_has_room

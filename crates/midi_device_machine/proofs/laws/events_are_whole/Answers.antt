use Rattle.midi_device_machine.proofs.Calls.{takes_whole_events}
use Rattle.midi_device_machine.proofs.laws.events_are_whole.Goals as goal

pub returns-clause-whole : goal.returns-clause-whole
returns-clause-whole c = takes_whole_events

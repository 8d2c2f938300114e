use Rattle.midi_events.proofs.Stream.{carries_what_is_said}
use Rattle.midi_events.proofs.laws.stream_is_carried.Goals as goal

pub returns : goal.returns
returns c = carries_what_is_said c.args.stream.now

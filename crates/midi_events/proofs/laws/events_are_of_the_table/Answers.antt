use Rattle.midi_events.proofs.Table.{events_of_the_table}
use Rattle.midi_events.proofs.laws.events_are_of_the_table.Goals as goal

pub returns : goal.returns
returns c = events_of_the_table c.args.stream.now

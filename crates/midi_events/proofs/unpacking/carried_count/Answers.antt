use Rattle.std.proofs.Common.{◌%◌, refl}
use Rattle.midi_events.specs.Events.{carried_counts}
use Rattle.midi_events.proofs.ByteKinds.{below_all}
use Rattle.midi_events.proofs.unpacking.carried_count.Goals as goal

pub returns-clause-few : goal.returns-clause-few
returns-clause-few c = below_all carried_counts 3 (c.args.first % 16) refl

-- So many events were taken, and what they carry is told.
use Rattle.std.proofs.Common.{◌≡◌}
use Rattle.midi_class.proofs.Told.{Told}
use Rattle.midi_class.proofs.calls.unpack_all.Given as goal

abbrev pub invariant-loop-done : goal.invariant-loop-done
invariant-loop-done g l =
    Told (g.P.DevPipes.pipes l.initial.pipes) l._done l.bytes.items (g.P.DevPipes.pipes l.pipes)
    × g.P.DevPipes.beside l.initial.pipes l.pipes
    × g.P.DevPipes.sound l.pipes
    × (g.P.DevPipes.spare l.pipes ≡ g.P.DevPipes.spare l.initial.pipes)

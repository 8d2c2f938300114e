-- So many bytes were taken, and each of them found room.
use Rattle.std.proofs.Common.{◌≡◌}
use Rattle.midi_class.proofs.Sent.{Sent}
use Rattle.midi_class.proofs.device.MidiDevice.send.Given as goal

abbrev pub invariant-loop-count : goal.invariant-loop-count
invariant-loop-count g l =
    Sent l.initial.self.packer (g.P.DevPipes.pipes l.initial.pipes) l.stream l.count l.self.packer (g.P.DevPipes.pipes l.pipes)
    × g.P.DevPipes.beside l.initial.pipes l.pipes
    × g.P.DevPipes.sound l.pipes
    × (g.P.DevPipes.spare l.pipes ≡ g.P.DevPipes.spare l.initial.pipes)

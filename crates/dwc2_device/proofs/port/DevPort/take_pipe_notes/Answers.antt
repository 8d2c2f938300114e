-- The call keeps what holds of controller, software and rings.
use Rattle.std.proofs.Common.{ap, ◌∙◌}
use Rattle.device_relation.specs.Software.{Joint}
use Rattle.device_relation.specs.Run.{run_note_in}
use Rattle.dwc2_device.specs.Driver.{joint}
use Rattle.dwc2_device.proofs.Noted.{notes_taken}
use Rattle.dwc2_device.proofs.port.DevPort.take_pipe_notes.Goals as goal

pub returns-clause-keeps : goal.returns-clause-keeps
returns-clause-keeps g c =
    notes_taken (joint c.args.self.now) (joint c.take_in_notes.new.self)
    (c.take_in_notes.ensures.joint ∙ ap (λ (j : Joint). run_note_in (run_note_in (run_note_in j 1) 2) 3) c.take_out_notes.ensures.joint)

-- What is read stands in the list alone, and has left the pipe.
use Rattle.std.proofs.Common.{◌≡◌, length, min, ap, ◌∙◌}
use Rattle.usb_pipe.specs.Own.{with_receiver}
use Rattle.cdc_device_machine.specs.Port.{read_size}
use Rattle.cdc_device.proofs.Reading.{read_over, read_off}
use Rattle.cdc_device.proofs.calls.read.Goals as goal

pub returns-clause-bytes : goal.returns-clause-bytes
returns-clause-bytes g c =
    let own = g.P.DevPipes.pipes c.args.pipes.now in
    let size : length c.blank.new.bytes.items ≡ min (read_size c.args.most) (length own.receives.pipe.held) =
    c.blank.ensures ∙ c.first_bytes-count.ensures ∙ ap (min (read_size c.args.most)) c.held.ensures in
    read_over own.receives.pipe.held c.blank.new.bytes.items c.as_mut_slice.result.now c.read.new.buf (read_size c.args.most) c.read.result
    size c.as_mut_slice.ensures.value c.read.ensures.size c.read.ensures.gave c.read.ensures.bytes

pub returns-clause-pipes : goal.returns-clause-pipes
returns-clause-pipes g c =
    let own = g.P.DevPipes.pipes c.args.pipes.now in
    let size : length c.as_mut_slice.result.now ≡ min (read_size c.args.most) (length own.receives.pipe.held) =
    ap length c.as_mut_slice.ensures.value ∙ c.blank.ensures ∙ c.first_bytes-count.ensures ∙ ap (min (read_size c.args.most)) c.held.ensures in
    c.read.ensures.pipes
    ∙ ap (λ held. with_receiver own (record own.receives { pipe = record own.receives.pipe { held = held } })) (read_off own.receives.pipe.held (read_size c.args.most) (length c.as_mut_slice.result.now) size)

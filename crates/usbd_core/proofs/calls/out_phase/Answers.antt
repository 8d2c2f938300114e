-- What the driver keeps shows what the pipe shows.
use Rattle.std.proofs.Common.{◌∙◌, ap}
use Rattle.dwc2_device.specs.Driver.{joint}
use Rattle.usbd_core.specs.Shown.{out_kept_shown}
use Rattle.usbd_core.proofs.Shows.{out_shows}
use Rattle.usbd_core.proofs.calls.out_phase.Goals as goal

pub returns : goal.returns
returns g c = c.out_kept_phase.ensures ∙ ap out_kept_shown c.out_at-kept.ensures ∙ out_shows (joint c.args.port.now) c.args.rings.now c.args.number c.requires.sound

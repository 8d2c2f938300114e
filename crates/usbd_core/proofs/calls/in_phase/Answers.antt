-- What the driver keeps shows what the pipe shows.
use Rattle.std.proofs.Common.{◌∙◌, ap}
use Rattle.dwc2_device.specs.Driver.{joint}
use Rattle.usbd_core.specs.Shown.{in_kept_shown}
use Rattle.usbd_core.proofs.Shows.{in_shows}
use Rattle.usbd_core.proofs.calls.in_phase.Goals as goal

pub returns : goal.returns
returns g c = c.in_kept_phase.ensures ∙ ap in_kept_shown c.in_at-kept.ensures ∙ in_shows (joint c.args.port.now) c.args.rings.now c.args.number c.requires.sound

-- What the pipe has queued lies in its ring.
use Rattle.std.proofs.Common.{◌∙◌, ap, sym, length}
use Rattle.usb_ring.specs.Ring.{Ring}
use Rattle.dwc2_device.specs.Driver.{joint}
use Rattle.usbd_core.proofs.Shows.{in_queued, in_at}
use Rattle.usbd_core.proofs.calls.in_held.Goals as goal

pub returns : goal.returns
returns g c = c.held.ensures ∙ ap (λ (x : Ring). length x.bytes) (in_at c.args.rings.now c.args.number) ∙ ap length (sym (in_queued (joint c.args.port.now) c.args.rings.now c.args.number c.requires.sound c.requires.sender.to))

-- What the pipe holds lies in its ring.
use Rattle.std.proofs.Common.{◌∙◌, ap, sym, length}
use Rattle.usb_ring.specs.Ring.{Ring}
use Rattle.dwc2_device.specs.Driver.{joint}
use Rattle.usbd_core.proofs.Shows.{out_held, out_at}
use Rattle.usbd_core.proofs.calls.out_held.Goals as goal

pub returns : goal.returns
returns g c = c.held.ensures ∙ ap (λ (x : Ring). length x.bytes) (out_at c.args.rings.now c.args.number c.requires.receiver.to) ∙ ap length (sym (out_held (joint c.args.port.now) c.args.rings.now c.args.number c.requires.sound c.requires.receiver.to))

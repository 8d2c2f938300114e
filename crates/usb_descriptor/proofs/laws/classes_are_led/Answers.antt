use Rattle.usb_descriptor.proofs.Led.{are_led}
use Rattle.usb_descriptor.proofs.laws.classes_are_led.Goals as goal

pub returns : goal.returns
returns c = are_led c.args.set.now

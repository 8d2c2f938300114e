use Rattle.usb_descriptor.proofs.Apart.{are_told_apart}
use Rattle.usb_descriptor.proofs.laws.owners_are_told_apart.Goals as goal

pub returns : goal.returns
returns c = are_told_apart

use Rattle.usb_control.proofs.Given.{interfaces_give}
use Rattle.usb_control.proofs.laws.interfaces_give.Goals as goal

pub returns : goal.returns
returns c = interfaces_give

use Rattle.std.proofs.Common.{refl}
use Rattle.device_line.specs.declared.line.DevLine.TheVariants.{Bus}
use Rattle.usb_text.specs.Scheduled.{Device}
use Rattle.usbrun.proofs.Handed.{nothing_handed}
use Rattle.usbrun.proofs.run.take_bus.Goals as goal

pub returns-then-is_too_long-clause-takes : goal.returns-then-is_too_long-clause-takes
returns-then-is_too_long-clause-takes g c = record {
  keeps = record { hands = nothing_handed _ c.args.session.now.texts; lines = refl; run = refl };
  trace = refl;
  halted = (Device (Bus c.args.event.now), c.requires.fits, c.requires.text, c.is_too_long.ensures.0 c.if-is_too_long.true);
}

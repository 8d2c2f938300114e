use Rattle.std.proofs.Common.{refl}
use Rattle.usb_text.specs.declared.reading.RunLine.{RunLine}
use Rattle.usb_text.specs.declared.reading.RunLine.TheVariants as run
use Rattle.usb_text.specs.Line.{IsScheduled}
use Rattle.usb_text.specs.Scheduled.{Device, run_line}
use Rattle.usbrun.proofs.Handed.{nothing_handed}
use Rattle.usbrun.proofs.run.take_run.Goals as goal

fits : (r : RunLine) → IsScheduled (Device (run_line r))
fits run.Irq = tt
fits run.Task = tt

pub returns-then-is_too_long-clause-takes : goal.returns-then-is_too_long-clause-takes
returns-then-is_too_long-clause-takes g c = record {
  keeps = record { hands = nothing_handed _ c.args.session.now.texts; lines = refl; run = refl };
  trace = refl;
  halted = (Device (run_line c.args.run), fits c.args.run, c.requires.text, c.is_too_long.ensures.0 c.if-is_too_long.true);
}

use Rattle.usbrun.proofs.Turns.{progress_end}
use Rattle.usbrun.proofs.run.run_schedule.Goals as goal

pub returns-in-Some-clause-runs : goal.returns-in-Some-clause-runs
returns-in-Some-clause-runs g c = progress_end c.in-Some.stop _ _ _ _ _ _ _ _ _ c.lines.invariant.progress c.in-Some.ensures.goes

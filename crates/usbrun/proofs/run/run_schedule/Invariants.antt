use Rattle.std.proofs.Common.{◌≡◌, ◌≤◌, ◌-◌, true}
use Rattle.usb_edge.specs.Stream.{IsAtEnd}
use Rattle.device_text.specs.Job.{most_bytes}
use Rattle.usbrun.specs.Texts.{both}
use Rattle.usbrun.specs.Session.{Progress}
use Rattle.usbrun.proofs.run.run_schedule.Given as goal

abbrev pub invariant-lines : goal.invariant-lines
invariant-lines g l = record {
  progress : Progress (g.S.Source.left l.fn.src) (g.S.Source.left l.src) (both (g.K.Sink.taken l.fn.out) (g.T.Sink.taken l.fn.trace))
      (both (g.K.Sink.taken l.out) (g.T.Sink.taken l.trace)) l.fn.session l.session;
  ended : l.session.lines.ended ≡ true → IsAtEnd (g.S.Source.left l.src);
  source : g.S.Source.faults l.fn.src ≤ g.S.Source.faults l.src;
  out_faults : g.K.Sink.faults l.out ≡ g.K.Sink.faults l.fn.out;
  trace_faults : g.T.Sink.faults l.trace ≡ g.T.Sink.faults l.fn.trace;
}

abbrev pub decreases-lines : goal.decreases-lines
decreases-lines g l = most_bytes - l.session.lines.count

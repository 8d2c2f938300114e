use Rattle.std.proofs.Common.{◌≡◌, ◌≤◌, ◌-◌, length, take}
use Rattle.usb_edge.specs.Stream.{Takes}
use Rattle.usb_edge.proofs.stream.Sink.write_all.Given as goal

abbrev pub invariant-loop-given : goal.invariant-loop-given
invariant-loop-given g l = record {
  within : l.given ≤ length l.bytes;
  takes : Takes (g.Self.Sink.taken l.fn.self) (g.Self.Sink.taken l.self) (take l.given l.bytes);
  same : g.Self.Sink.faults l.self ≡ g.Self.Sink.faults l.fn.self;
}

abbrev pub decreases-loop-given : goal.decreases-loop-given
decreases-loop-given g l = length l.bytes - l.given

use Rattle.std.proofs.Common.{arith, ◌∙◌}
use Rattle.std.proofs.lemmas.List.{take_rest, length-drop}
use Rattle.usb_edge.proofs.Streams.{more_taken}
use Rattle.usb_edge.proofs.stream.Sink.write_all.Goals as goal

pub loop-given-preserved : goal.loop-given-preserved
loop-given-preserved g c =
    let bytes = c.args.bytes.now in
    let rest = take_rest bytes c.loop-given.given in
    let some = rw rest at c.in-Bytes.ensures.bytes in
    record {
      within = omega (arith, some.1, length-drop c.loop-given.given bytes);
      takes = more_taken _ _ _ bytes c.loop-given.given c.in-Bytes.n c.loop-given.invariant.takes some.2;
      same = c.in-Bytes.ensures.exact ∙ c.loop-given.invariant.same;
    }

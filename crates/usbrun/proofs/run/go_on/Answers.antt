use Rattle.std.proofs.Common.{refl}
use Rattle.usbrun.specs.Texts.{both}
use Rattle.usbrun.proofs.Turns.{goes_line, halts_long}
use Rattle.usbrun.proofs.run.go_on.Goals as goal

pub returns-in-Some-Line-clause-goes : goal.returns-in-Some-Line-clause-goes
returns-in-Some-Line-clause-goes g c =
    let found = rw c.in-Some-Line.field-0-is at c.in-Some-Line.ensures.next in
    goes_line c.in-Some-Line.n _ _ (both _ (g.T.Sink.taken c.args.trace.now)) (both _ (g.T.Sink.taken c.args.trace.now)) _ _ _ _ c.in-Some-Line.ensures.looks refl found
    c.in-Some-Line.ensures.ended c.take_line.result c.take_line.ensures.takes

pub returns-in-Some-LineTooLong-clause-goes : goal.returns-in-Some-LineTooLong-clause-goes
returns-in-Some-LineTooLong-clause-goes g c =
    let found = rw c.in-Some-LineTooLong.field-0-is at c.in-Some-LineTooLong.ensures.next in
    halts_long _ _ _ _ _ _ _ c.in-Some-LineTooLong.ensures.looks found.0 found.1

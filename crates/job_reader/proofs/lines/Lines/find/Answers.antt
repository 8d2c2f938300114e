use Rattle.std.proofs.Common.{arith}
use Rattle.std.proofs.lemmas.Bool.Decides.{nat_tests}
use Rattle.job_reader.proofs.Gone.{last_found}
use Rattle.job_reader.proofs.lines.Lines.find.Goals as goal

pub returns-else-len-eq0-clause-next : goal.returns-else-len-eq0-clause-next
returns-else-len-eq0-clause-next g c =
    let plain = rw c.ahead.ensures at c.in-None.ensures in
    rw c.ahead-len.ensures (last_found _ plain (grind (arith, nat_tests, c.ahead-len.ensures, c.if-len-eq0.false)) c.if-self.true)

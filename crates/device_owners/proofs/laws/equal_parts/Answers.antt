use Rattle.std.proofs.Common.{ap}
use Rattle.device_owners.specs.Lines.{own, state_after, line_answer}
use Rattle.device_owners.proofs.laws.equal_parts.Goals as goal

pub returns : goal.returns
returns g c = λ world o one other line e. ap (λ lines. line_answer (own world o) (state_after (own world o) lines) line) e

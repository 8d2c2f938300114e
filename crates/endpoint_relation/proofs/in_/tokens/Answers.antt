use Rattle.endpoint_relation.proofs.InToken.{tokens}
use Rattle.endpoint_relation.proofs.in_.tokens.Goals as goal

pub returns : goal.returns
returns c = tokens

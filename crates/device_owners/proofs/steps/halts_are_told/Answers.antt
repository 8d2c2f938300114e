use Rattle.device_owners.proofs.Told.{halts_one, keeps_halts}
use Rattle.device_owners.proofs.steps.halts_are_told.Goals as goal

pub returns-clause-one : goal.returns-clause-one
returns-clause-one g c = λ m d address open_ is. halts_one m d address open_ is

pub returns-clause-kept : goal.returns-clause-kept
returns-clause-kept g c = λ m d open_. keeps_halts m d open_

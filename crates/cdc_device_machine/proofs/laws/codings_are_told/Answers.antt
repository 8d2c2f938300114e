use Rattle.cdc_device_machine.proofs.Codings.{coding_told}
use Rattle.cdc_device_machine.proofs.laws.codings_are_told.Goals as goal

pub returns-clause-told : goal.returns-clause-told
returns-clause-told c = coding_told

use Rattle.msc_device_machine.proofs.BlockRuns.{writes_stand, first_blocks_are_written, others_change_nothing}
use Rattle.msc_device_machine.proofs.laws.blocks_are_kept.Goals as goal

pub returns-clause-stand : goal.returns-clause-stand
returns-clause-stand c = writes_stand

pub returns-clause-first : goal.returns-clause-first
returns-clause-first c = first_blocks_are_written

pub returns-clause-others : goal.returns-clause-others
returns-clause-others c = others_change_nothing

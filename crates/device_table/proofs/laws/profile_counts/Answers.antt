-- The counts of a profile.
use Rattle.device_table.proofs.ProfileLemmas.{counts_are_kept, beyond_reads_nothing}
use Rattle.device_table.proofs.laws.profile_counts.Goals as goal

pub returns-clause-counts : goal.returns-clause-counts
returns-clause-counts c = counts_are_kept

pub returns-clause-beyond : goal.returns-clause-beyond
returns-clause-beyond c = beyond_reads_nothing

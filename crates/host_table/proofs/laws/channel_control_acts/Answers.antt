use Rattle.host_table.proofs.AccessLemmas.{control_acts}
use Rattle.host_table.proofs.laws.channel_control_acts.Goals as goal

pub returns : goal.returns
returns c = control_acts

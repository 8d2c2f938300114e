use Rattle.host_table.proofs.TakerLemmas.{lowest_takes, lowest_is_taker, nobody_takes, idle_where}
use Rattle.host_table.proofs.BusLemmas.{disabled_is_silent}
use Rattle.host_table.proofs.laws.lowest_channel_takes.Goals as goal

pub returns-clause-lowest : goal.returns-clause-lowest
returns-clause-lowest c = lowest_takes

pub returns-clause-taken : goal.returns-clause-taken
returns-clause-taken c = lowest_is_taker

pub returns-clause-nobody : goal.returns-clause-nobody
returns-clause-nobody c = nobody_takes

pub returns-clause-idle : goal.returns-clause-idle
returns-clause-idle c = idle_where

pub returns-clause-disabled : goal.returns-clause-disabled
returns-clause-disabled c = disabled_is_silent

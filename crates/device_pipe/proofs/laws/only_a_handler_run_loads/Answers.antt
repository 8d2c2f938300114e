use Rattle.device_pipe.proofs.Refused.{unloaded_sends_nothing}
use Rattle.device_pipe.proofs.laws.only_a_handler_run_loads.Goals as goal

pub returns : goal.returns
returns c = unloaded_sends_nothing

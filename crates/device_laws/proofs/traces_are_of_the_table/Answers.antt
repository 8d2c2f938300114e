use Rattle.device_laws.proofs.Traces.{turns_are_of_the_table, are_traces, are_no_traces}
use Rattle.device_laws.proofs.traces_are_of_the_table.Goals as goal

pub returns-clause-turns : goal.returns-clause-turns
returns-clause-turns g c = λ world. turns_are_of_the_table world

pub returns-clause-some : goal.returns-clause-some
returns-clause-some g c = are_traces

pub returns-clause-none : goal.returns-clause-none
returns-clause-none g c = λ world. are_no_traces world

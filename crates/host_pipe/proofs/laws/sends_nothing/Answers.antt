use Rattle.host_pipe.proofs.Still.{clearing, halted, dead, in_clearing, in_halted, in_dead}
use Rattle.host_pipe.proofs.laws.sends_nothing.Goals as goal

pub returns-clause-out_clearing : goal.returns-clause-out_clearing
returns-clause-out_clearing c = clearing

pub returns-clause-out_halted : goal.returns-clause-out_halted
returns-clause-out_halted c = halted

pub returns-clause-out_dead : goal.returns-clause-out_dead
returns-clause-out_dead c = dead

pub returns-clause-in_clearing : goal.returns-clause-in_clearing
returns-clause-in_clearing c = in_clearing

pub returns-clause-in_halted : goal.returns-clause-in_halted
returns-clause-in_halted c = in_halted

pub returns-clause-in_dead : goal.returns-clause-in_dead
returns-clause-in_dead c = in_dead

use Rattle.host_pipe.proofs.Rows.{out_rows, in_rows}
use Rattle.host_pipe.proofs.laws.tries_are_a_row.Goals as goal

pub returns-clause-out_rows : goal.returns-clause-out_rows
returns-clause-out_rows c = out_rows

pub returns-clause-in_rows : goal.returns-clause-in_rows
returns-clause-in_rows c = in_rows

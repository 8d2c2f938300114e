-- by each outcome
use Rattle.device_table.specs.Bus.{out_outcome, in_outcome}
use Rattle.std.proofs.Common.{suc}
use Rattle.device_table.proofs.BusLemmas.{out_leaves, in_leaves}
use Rattle.device_table.proofs.laws.bus_leaves_others.Goals as goal

pub returns : goal.returns
returns c =
    λ t addr n toggle bytes good.
    (out_leaves t n toggle bytes (out_outcome t addr (suc n) toggle bytes good), in_leaves t n good (in_outcome t addr (suc n)))

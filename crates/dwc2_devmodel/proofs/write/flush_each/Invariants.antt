use Rattle.std.proofs.Common.{◌≡◌, ◌++◌, map, take, drop}
use Rattle.device_table.specs.Write.{emptied}
use Rattle.dwc2_devmodel.proofs.write.flush_each.Given as goal

-- the first ends are flushed, and the others are as they were
abbrev pub invariant-loop-end : goal.invariant-loop-end
invariant-loop-end l =
    l.end-items ≡ map emptied (take l.end-index l.initial.end-items) ++ drop l.end-index l.initial.end-items

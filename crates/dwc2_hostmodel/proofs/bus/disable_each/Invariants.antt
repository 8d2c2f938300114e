use Rattle.std.proofs.Common.{◌≡◌, ◌++◌, map, take, drop}
use Rattle.host_table.specs.Bus.{disabled}
use Rattle.dwc2_hostmodel.proofs.bus.disable_each.Given as goal

-- the first channels are disabled, and the others are as they were
abbrev pub invariant-loop-channel : goal.invariant-loop-channel
invariant-loop-channel l =
    l.channel-items ≡ map disabled (take l.channel-index l.initial.channel-items) ++ drop l.channel-index l.initial.channel-items

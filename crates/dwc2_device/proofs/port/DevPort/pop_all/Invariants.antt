-- What was popped, and what is still to be popped, are all.
use Rattle.std.proofs.Common.{◌≡◌, ◌+◌, ◌-◌, ◌≤◌, []}
use Rattle.device_relation.specs.Run.{popped_all}
use Rattle.access_order.specs.Phase.{Keeps, closing}
use Rattle.dwc2_device.specs.Driver.{GoesOn}
use Rattle.dwc2_device.proofs.port.DevPort.pop_all.Given as goal

abbrev pub invariant-loop : goal.invariant-loop
invariant-loop g l =
    (popped_all (14 - l.counter) l.self.bank.table ≡ popped_all 14 l.initial.self.bank.table)
    × (l.self.software ≡ l.initial.self.software)
    × (l.initial.self.bank.spare ≤ l.self.bank.spare + l.counter)
    × (l.self.bank.due ≡ [])
    × GoesOn l.initial.self.bank l.self.bank
    × Keeps (closing 4) (closing 4) l.initial.self.bank.log l.self.bank.log

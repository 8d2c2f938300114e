-- What was taken, and what is still to be taken, are all; and what is left stands.
use Rattle.std.proofs.Common.{◌≡◌, ◌+◌, ◌-◌, ◌*◌, ◌≤◌, []}
use Rattle.device_relation.specs.Run.{arrivals_taken}
use Rattle.access_order.specs.Phase.{serving}
use Rattle.dwc2_device.specs.Driver.{whole, GoesOn}
use Rattle.dwc2_device.specs.Order.{Goes}
use Rattle.dwc2_device.specs.Standing.{IsStanding}
use Rattle.dwc2_device.proofs.port.DevPort.take_arrivals.Given as goal

abbrev pub invariant-loop : goal.invariant-loop
invariant-loop g l =
    (arrivals_taken (7 - l.counter) (whole l.self l.rings) ≡ arrivals_taken 7 (whole l.initial.self l.initial.rings))
    × (l.initial.self.bank.spare ≤ l.self.bank.spare + 19 * l.counter)
    × (l.self.bank.due ≡ [])
    × GoesOn l.initial.self.bank l.self.bank
    × IsStanding (whole l.self l.rings)
    × Goes (serving 0) (serving 0) l.initial.self l.self

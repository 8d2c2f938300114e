-- Those so far, and those of the rest, are all.
use Rattle.std.proofs.Common.{◌≡◌, ◌≤◌, ◌++◌, length, drop}
use Rattle.std.specs.Prelude.{filter}
use Rattle.dwc2_device.specs.Calls.{is_halted_at}
use Rattle.dwc2_device.proofs.port.DevPort.halted_among.Given as goal

abbrev pub invariant-loop-addr : goal.invariant-loop-addr
invariant-loop-addr g l = record {
  few : length l.halted.items ≤ l.addr-index;
  same : l.halted.items ++ filter (is_halted_at l.self.software) (drop l.addr-index l.addresses) ≡ filter (is_halted_at l.self.software) l.addresses;
}

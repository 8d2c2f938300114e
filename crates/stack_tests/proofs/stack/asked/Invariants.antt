-- What holds of the device's software between two tasks.
use Rattle.usbd_core.specs.View.{IsWhole}
use Rattle.stack_tests.proofs.stack.asked.Given as goal

abbrev pub invariant-loop-request : goal.invariant-loop-request
invariant-loop-request g l = IsWhole l.device.stack

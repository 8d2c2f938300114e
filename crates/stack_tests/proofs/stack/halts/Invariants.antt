-- What holds of the device's software between two tasks.
use Rattle.usbd_core.specs.View.{IsWhole}
use Rattle.stack_tests.proofs.stack.halts.Given as goal

abbrev pub invariant-loop-ends : goal.invariant-loop-ends
invariant-loop-ends g l = IsWhole l.device.stack

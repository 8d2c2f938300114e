-- What holds of the device's software between two tasks.
use Rattle.usbd_core.specs.View.{IsWhole}
use Rattle.stack_tests.proofs.stack.packets.Given as goal

abbrev pub invariant-loop-allowed : goal.invariant-loop-allowed
invariant-loop-allowed g l = IsWhole l.device.stack

-- What the tests of a phase tell of it.
use Rattle.std.proofs.Common.{◌≡◌, ◌≢◌, true, false, refl, arith}
use Rattle.usb_pipe.specs.declared.phase.Phase.{Phase}
use Rattle.usb_pipe.specs.declared.phase.Phase.TheVariants.{Closed, Rest, Running, Posted, Halted, Dead, Clearing}
use Rattle.class_pipes.specs.Pipes.{is_rest, is_closed}

pub rest_of-test : (p : Phase) → is_rest p ≡ true → p ≡ Rest
rest_of-test Rest h = refl
rest_of-test Closed h = grind arith
rest_of-test Running h = grind arith
rest_of-test Posted h = grind arith
rest_of-test Halted h = grind arith
rest_of-test Dead h = grind arith
rest_of-test Clearing h = grind arith

pub test-closed : (p : Phase) → p ≢ Closed → is_closed p ≡ false
test-closed Closed h = absurd (h refl)
test-closed Rest h = refl
test-closed Running h = refl
test-closed Posted h = refl
test-closed Halted h = refl
test-closed Dead h = refl
test-closed Clearing h = refl

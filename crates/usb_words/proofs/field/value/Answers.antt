use Rattle.std.proofs.Common.{◌^◌, arith, ◌∙◌}
use Rattle.usb_words.proofs.Numbers.{read_on_step}
use Rattle.usb_words.proofs.field.value.Goals as goal

pub loop-digit-preserved : goal.loop-digit-preserved
loop-digit-preserved c =
    let step = read_on_step c.args.digits.now c.loop-digit.digit-index c.loop-digit.value (2 ^ 40) (2 ^ 32) (omega arith) (omega arith) in
    record { fits = omega arith; same = rw (c.min-value.ensures, c.from.ensures, c.saturating_sub.ensures) (step ∙ c.loop-digit.invariant.same) }

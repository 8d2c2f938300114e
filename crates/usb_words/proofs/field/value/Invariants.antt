use Rattle.std.proofs.Common.{◌≡◌, ◌^◌, ◌≤◌, min, drop}
use Rattle.usb_words.specs.Field.{read_on}
use Rattle.usb_words.proofs.field.value.Given as goal

-- the digits that are left, after those that were read, give the number, where that is small
abbrev pub invariant-loop-digit : goal.invariant-loop-digit
invariant-loop-digit l = record {
  fits : l.value ≤ 2 ^ 40;
  same : min (read_on l.value (drop l.digit-index l.digits)) (2 ^ 32) ≡ min (read_on 0 l.digits) (2 ^ 32);
}

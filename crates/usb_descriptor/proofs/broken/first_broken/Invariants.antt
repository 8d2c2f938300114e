use Rattle.std.proofs.Common.{◌≡◌, take, drop}
use Rattle.usb_descriptor.specs.Rules.{breaks, first_from, first_broken}
use Rattle.usb_descriptor.proofs.broken.first_broken.Given as goal

-- no descriptor so far breaks the rule
abbrev pub invariant-loop-i : goal.invariant-loop-i
invariant-loop-i l =
    first_from (breaks l.limits l.rule l.row) (take l.i l.row) (drop l.i l.row) ≡ first_broken l.limits l.rule l.row

use Rattle.std.proofs.Common.{◌≡◌, drop}
use Rattle.std.specs.Prelude.{find}
use Rattle.usb_descriptor.specs.Strings.{has_index}
use Rattle.usb_descriptor.proofs.strings.string_of.Given as goal

-- none so far is the one
abbrev pub invariant-loop-string : goal.invariant-loop-string
invariant-loop-string l = find (has_index l.index) (drop l.string-index l.strings) ≡ find (has_index l.index) l.strings

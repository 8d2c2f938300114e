use Rattle.std.proofs.Common.{◌≡◌, ◌+◌, ◌-◌, ◌≤◌, length}
use Rattle.std.specs.List.{position_or_len}
use Rattle.usb_words.specs.Field.{is_space}
use Rattle.usb_words.proofs.Spaces.{before}
use Rattle.usb_words.proofs.words.bytes_to_space.Given as goal

-- those that were passed, and those before the first space of the others, are all before the first space
abbrev pub invariant-bytes : goal.invariant-bytes
invariant-bytes l = record {
  within : l.at ≤ length l.line;
  same : l.at + before l.line l.at ≡ position_or_len is_space l.line;
}

abbrev pub decreases-bytes : goal.decreases-bytes
decreases-bytes l = length l.line - l.at

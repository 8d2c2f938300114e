use Rattle.std.proofs.Common.{◌≡◌, ◌≤◌, ◌+◌, ◌/◌, length}
use Rattle.arrayvec.specs.ArrayVec.{array_vec_len}
use Rattle.usb_words.specs.Field.{bytes_of_pairs}
use Rattle.usb_words.proofs.Pairs.{after_bytes}
use Rattle.usb_words.proofs.field.read_pairs.Given as goal

-- what was read, and what the digits left give, is what all the digits give
abbrev pub invariant-loop-rest : goal.invariant-loop-rest
invariant-loop-rest g l = record {
  room : array_vec_len l.bytes + length l.rest / 2 ≤ length l.word / 2;
  same : after_bytes l.bytes.items (bytes_of_pairs l.rest) ≡ bytes_of_pairs l.word;
}

abbrev pub decreases-loop-rest : goal.decreases-loop-rest
decreases-loop-rest g l = length l.rest

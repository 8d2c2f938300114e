use Rattle.std.proofs.Common.{◌≡◌, ◌+◌, ◌*◌, ◌++◌, take}
use Rattle.std.specs.List.{flat_map}
use Rattle.arrayvec.specs.ArrayVec.{array_vec_len}
use Rattle.usb_words.specs.Field.{hex_pair}
use Rattle.usb_words.proofs.print.push_pairs.Given as goal

abbrev pub invariant-loop-byte : goal.invariant-loop-byte
invariant-loop-byte g l = record {
  items : l.out.items ≡ l.fn.out.items ++ flat_map hex_pair (take l.byte-index l.bytes);
  count : array_vec_len l.out ≡ array_vec_len l.fn.out + 2 * l.byte-index;
}

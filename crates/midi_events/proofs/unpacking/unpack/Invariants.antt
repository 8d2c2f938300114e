use Rattle.std.proofs.Common.{◌≡◌, take}
use Rattle.arrayvec.specs.ArrayVec.{array_vec_len}
use Rattle.midi_events.proofs.unpacking.unpack.Given as goal

abbrev pub invariant-loop-byte : goal.invariant-loop-byte
invariant-loop-byte l = (l.bytes.items ≡ take l.byte-index l.byte-items) × (array_vec_len l.bytes ≡ l.byte-index)

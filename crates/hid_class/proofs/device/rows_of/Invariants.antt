-- As many rows as lengths so far, each of its length.
use Rattle.std.proofs.Common.{◌≡◌, map, take}
use Rattle.arrayvec.specs.ArrayVec.{array_vec_len}
use Rattle.hid_device_machine.specs.Reports.{fresh}
use Rattle.hid_class.proofs.device.rows_of.Given as goal

abbrev pub invariant-loop-lengths : goal.invariant-loop-lengths
invariant-loop-lengths l = (l.rows.items ≡ map fresh (take l.lengths-index l.lengths-items)) × (array_vec_len l.rows ≡ l.lengths-index)

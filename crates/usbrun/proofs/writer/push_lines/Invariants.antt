use Rattle.std.proofs.Common.{◌≡◌, ◌+◌, ◌*◌, ◌≤◌, ◌++◌, take}
use Rattle.arrayvec.specs.ArrayVec.{array_vec_len}
use Rattle.usbrun.specs.Texts.{access_lines}
use Rattle.usbrun.proofs.writer.push_lines.Given as goal

abbrev pub invariant-loop-access : goal.invariant-loop-access
invariant-loop-access l = record {
  items : l.out.items ≡ l.fn.out.items ++ access_lines (take l.access-index l.accesses);
  size : array_vec_len l.out ≤ array_vec_len l.fn.out + 17 * l.access-index;
}

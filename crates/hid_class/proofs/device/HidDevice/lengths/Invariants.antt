-- As many lengths as rows so far, each of its row.
use Rattle.std.proofs.Common.{◌≡◌, map, take}
use Rattle.arrayvec.specs.ArrayVec.{array_vec_len}
use Rattle.hid_device_machine.specs.declared.reports.IdReports.{IdReports}
use Rattle.hid_class.proofs.device.HidDevice.lengths.Given as goal

abbrev pub invariant-loop-row : goal.invariant-loop-row
invariant-loop-row l = (l.lengths.items ≡ map (λ (row : IdReports). row.lengths) (take l.row-index l.row-items)) × (array_vec_len l.lengths ≡ l.row-index)

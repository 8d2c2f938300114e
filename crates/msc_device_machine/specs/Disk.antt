-- What is asked of the disk in slot 0, and what disks that tell their contents answer.
use Rattle.std.specs.Prelude.{ℕ, List, [], Option, Some, None, if◌then◌else◌}
use Rattle.usb_edge.specs.Disk.{Shelf, is_failing, called, read_block, written}

-- the one slot of a device's disk
abbrev pub slot : ℕ
slot = 0

pub data Call : Type 0 where
  Read : (lba : ℕ) → Call
  Write : (lba : ℕ) → (block : List ℕ) → Call
  Sync : Call

-- the bytes that a call gives, where it passes
abbrev pub given : Call → Shelf → List ℕ
given (Read lba) shelf = read_block slot lba shelf
given (Write lba block) shelf = []
given Sync shelf = []

abbrev pub answer_of : Call → Shelf → Option (List ℕ)
answer_of call shelf = if is_failing shelf then None else Some (given call shelf)

-- a call that passes leaves its block, and one that fails leaves all blocks
abbrev pub done : Call → Shelf → Shelf
done (Read lba) shelf = shelf
done (Write lba block) shelf = written slot lba block shelf
done Sync shelf = shelf

abbrev pub after_call : Call → Shelf → Shelf
after_call call shelf = if is_failing shelf then called shelf else called (done call shelf)

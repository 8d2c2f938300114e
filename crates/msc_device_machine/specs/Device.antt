-- A mass storage device with the disks behind it, where those tell what they have.
use Rattle.std.specs.Prelude.{ℕ, List, Option, Some, None}
use Rattle.usb_edge.specs.Disk.{Shelf}
use Rattle.usb_pipe.specs.Own.{Own}
use Rattle.msc_device_machine.specs.Disk as disk
use Rattle.msc_device_machine.specs.Storage.{Storage, call_of, worked}

pub record Device : Type 0 where
  pub storage : Storage
  pub shelf : Shelf

-- what the disk answers to what it is asked, where it is
abbrev pub answered : Option disk.Call → Shelf → Option (List ℕ)
answered None shelf = None
answered (Some call) shelf = disk.answer_of call shelf

abbrev pub shelf_after : Option disk.Call → Shelf → Shelf
shelf_after None shelf = shelf
shelf_after (Some call) shelf = disk.after_call call shelf

abbrev pub after_work : Device → Own → Device
after_work d own = record {
  storage = (worked d.storage own (answered (call_of d.storage own) d.shelf)).storage;
  shelf = shelf_after (call_of d.storage own) d.shelf;
}

abbrev pub pipes_after_work : Device → Own → Own
pipes_after_work d own = (worked d.storage own (answered (call_of d.storage own) d.shelf)).own

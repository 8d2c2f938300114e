-- A task's pipes and classes: what one endpoint's class learns, and what a part of a task leaves that begins and ends with all in
-- agreement.
use Rattle.std.specs.Prelude.{◌≡◌, ℕ}
use Rattle.usb_pipe.specs.Classes.{Classes}
use Rattle.device_pipe.specs.InPipe.{ended}
use Rattle.device_machine.specs.Pipes.{InSlot, pipes_after_task}
use Rattle.device_owners.specs.Device.{Core, Machinery, told_ended_of}
use Rattle.dwc2_device.specs.Driver.{Spends}
use Rattle.usbd_core.specs.Device.{Device}
use Rattle.usbd_core.specs.Task.{GoesInOrder}
use Rattle.usbd_core.specs.View.{IsWhole}

-- the class of an endpoint learns that a transfer ended, where one did
abbrev pub told_ended : {S : Type 0} → Machinery S → InSlot → Classes S → Classes S
told_ended m slot classes = told_ended_of m slot.endpoint (ended slot.pipe) classes

-- what was found on the pipes is taken up
abbrev pub with_pipes_noted : Core → Core
with_pipes_noted core = record core { pipes = pipes_after_task core.pipes }

-- it leaves what holds between two tasks, and the descriptors, and at most so many accesses were made, in order
abbrev pub LeavesWhole : ℕ → Device → Device → Type 0
LeavesWhole n old new = IsWhole new × (new.set ≡ old.set) × GoesInOrder old.port new.port × Spends n old.port.bank new.port.bank

-- The whole device, and that each answer is its.
use Rattle.std.proofs.Common.{◌≡◌, List, sym}
use Rattle.device_line.specs.declared.line.DevLine.{DevLine}
use Rattle.usb_pipe.specs.Classes.{Classes}
use Rattle.device_owners.specs.Device.{World, Device, Core}
use Rattle.device_owners.specs.Lines.{answer_to, whole_answer}
use Rattle.device_owners.specs.Isolation.{Isolates}
use Rattle.device_owners.proofs.Along.{isolates}
use Rattle.device_laws.specs.World.{IsOfSet}

-- a device of these parts
abbrev pub of_parts : {S : Type 0} → Core → Classes S → Device S
of_parts core classes = record { core = core; classes = classes }

pub isolated : {S : Type 0} (world : World S) → IsOfSet world → Isolates world
isolated world h = isolates world h.limits h.served h.grouped

pub answer_is_whole : {S : Type 0} (world : World S) → IsOfSet world → (before : List DevLine) (line : DevLine) → answer_to world before line ≡ whole_answer world before line
answer_is_whole world h before line = sym ((isolated world h).answers before line)

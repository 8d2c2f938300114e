-- The text of the answers to a device's schedule.
use Rattle.std.specs.Prelude.{ℕ, List, [], ◌∷◌, ◌++◌}
use Rattle.std.specs.List.{flat_map}
use Rattle.device_line.specs.declared.line.DevLine.{DevLine}
use Rattle.device_line.specs.declared.line.Answer.{Answer}
use Rattle.usb_text.specs.Line.{answer_text, newline}
use Rattle.device_owners.specs.Device.{World}
use Rattle.device_schedule.specs.Schedule.{answers}

abbrev pub answer_line : Answer → List ℕ
answer_line a = answer_text a ++ newline ∷ []

-- the text of all answers in order, a line for each
abbrev pub device_text : {S : Type 0} → World S → List DevLine → List ℕ
device_text world lines = flat_map answer_line (answers world lines)

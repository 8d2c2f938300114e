-- Owners are kept apart, whatever their classes do.
use Rattle.std.specs.Prelude.{◌≡◌, List}
use Rattle.usb_packet.specs.declared.bus.Owner.{Owner}
use Rattle.usb_descriptor.specs.declared.limits.EpLimits.{EpLimits}
use Rattle.usb_descriptor.specs.Set.{endpoints_of}
use Rattle.usb_descriptor.specs.Served.{AreServed}
use Rattle.usb_descriptor.specs.Owners.{AreGrouped}
use Rattle.device_line.specs.declared.line.DevLine.{DevLine}
use Rattle.device_owners.specs.Device.{World}
use Rattle.device_owners.specs.Lines.{own, part, answer_to, own_answer, whole_answer, last_owner, control_owner}

-- The whole device answers each line as its owner's own machine does over that owner's part alone; and every owner's machine, over its
-- part, finds the same owner of endpoint 0.
pub record Isolates {S : Type 0} (world : World S) : Type 0 where
  pub answers : (before : List DevLine) (line : DevLine) → whole_answer world before line ≡ answer_to world before line
  pub control : (o : Owner) (before : List DevLine) → last_owner (own world o) (part world.set o before) ≡ control_owner world before

-- so it is in every world whose endpoints have one address each, and the owners of their interfaces
abbrev pub IsIsolating : {S : Type 0} → World S → EpLimits → Type 0
IsIsolating world limits = AreServed limits (endpoints_of world.set.config) → AreGrouped world.set → Isolates world

-- Two schedules whose parts for one owner are equal give that owner equal answers
abbrev pub EqualParts : {S : Type 0} → World S → Type 0
EqualParts world = (o : Owner) (one other : List DevLine) (line : DevLine) → part world.set o one ≡ part world.set o other → own_answer world o one line ≡ own_answer world o other line

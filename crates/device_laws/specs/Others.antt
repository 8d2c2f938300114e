-- What the part of an owner leaves out, and that this reaches none of the owner's answers, whatever the classes do.
use Rattle.std.specs.Prelude.{◌≡◌, ◌≢◌, ℕ, ◌+◌, List, ◌∷◌, ◌++◌, Bool, false}
use Rattle.usb_packet.specs.declared.bus.Owner.{Owner}
use Rattle.usb_packet.specs.declared.bus.Toggle.{Toggle}
use Rattle.usb_packet.specs.declared.bus.BusEvent.{BusEvent}
use Rattle.usb_packet.specs.declared.bus.BusEvent.TheVariants as event
use Rattle.usb_packet.specs.declared.setup.Setup.{Setup}
use Rattle.usb_descriptor.specs.Set.{Set, owner_of_endpoint}
use Rattle.usb_control.specs.Table.{owner_of}
use Rattle.device_line.specs.declared.line.DevLine.{DevLine}
use Rattle.device_line.specs.declared.line.DevLine.TheVariants.{Bus, Irq, Task, Call}
use Rattle.device_owners.specs.Knows.{knows_own}
use Rattle.device_owners.specs.Device.{World, Device, after_bus, taken_up}
use Rattle.device_owners.specs.Lines.{call_owner, own, part, line_owner, whole_answer}

-- A packet on another endpoint than 0 that isn't the owner's, or a call that isn't. IN is bit 7 of an endpoint's address (USB 2.0,
-- 9.6.6)

abbrev pub IsPacketOfOther : Set → Owner → ℕ → ℕ → Type 0
IsPacketOfOther set o ep address = (ep ≢ 0) × (owner_of_endpoint set.config address ≢ o)

abbrev pub IsEventOfOther : Set → Owner → BusEvent → Type 0
IsEventOfOther set o event.Reset = ⊥
IsEventOfOther set o (event.Setup addr bytes ok) = ⊥
IsEventOfOther set o (event.Out addr ep toggle packet ok) = IsPacketOfOther set o ep ep
IsEventOfOther set o (event.In addr ep ok) = IsPacketOfOther set o ep (128 + ep)

abbrev pub IsOfOther : Set → Owner → DevLine → Type 0
IsOfOther set o (Bus e) = IsEventOfOther set o e
IsOfOther set o Irq = ⊥
IsOfOther set o Task = ⊥
IsOfOther set o (Call call) = call_owner call ≢ o

-- an owner's part leaves out such lines, and none that is the owner's
pub record PartsAreWhole {S : Type 0} (world : World S) : Type 0 where
  pub leaves : (o : Owner) (before behind : List DevLine) (line : DevLine) → IsOfOther world.set o line
      → part world.set o (before ++ line ∷ behind) ≡ part world.set o (before ++ behind)
  pub keeps : (o : Owner) (before behind : List DevLine) (line : DevLine) → line_owner world before line ≡ o
      → part world.set o (before ++ line ∷ behind) ≡ part world.set o before ++ line ∷ part world.set o behind

-- two schedules with equal parts for an owner: behind both a line is of the same owner, and where it is of this one, the device answers
-- it alike
pub record EqualPartsAnswerAlike {S : Type 0} (world : World S) : Type 0 where
  pub owner : (o : Owner) (one other : List DevLine) (line : DevLine) → part world.set o one ≡ part world.set o other
      → line_owner world one line ≡ line_owner world other line
  pub answer : (o : Owner) (one other : List DevLine) (line : DevLine) → part world.set o one ≡ part world.set o other → line_owner world one line ≡ o
      → whole_answer world one line ≡ whole_answer world other line

-- with a line of another owner taken out, each line behind it is of the owner that it was of, and the device answers those of this one
-- as it did
pub record OthersDontReach {S : Type 0} (world : World S) : Type 0 where
  pub owner : (o : Owner) (before behind : List DevLine) (other line : DevLine) → IsOfOther world.set o other
      → line_owner world (before ++ other ∷ behind) line ≡ line_owner world (before ++ behind) line
  pub answer : (o : Owner) (before behind : List DevLine) (other line : DevLine) → IsOfOther world.set o other → line_owner world (before ++ behind) line ≡ o
      → whole_answer world (before ++ other ∷ behind) line ≡ whole_answer world (before ++ behind) line

-- of another class's control transfer an owner's machine keeps that one stands: nothing of its request, and nothing of what the host
-- sends and takes in it
pub record ForeignKeepsNothing {S : Type 0} (world : World S) : Type 0 where
  pub requests : (o : Owner) (d : Device S) (one other : Setup) → knows_own o (owner_of world.set one) ≡ false → knows_own o (owner_of world.set other) ≡ false
      → taken_up (own world o) d one ≡ taken_up (own world o) d other
  pub packets : (o : Owner) (d : Device S) (setup : Setup) → knows_own o (owner_of world.set setup) ≡ false → (addr : ℕ) (toggle : Toggle) (packet : List ℕ) (ok : Bool)
      → (after_bus (taken_up (own world o) d setup) (event.Out addr 0 toggle packet ok)).core.bus ≡ (taken_up (own world o) d setup).core.bus
  pub tokens : (o : Owner) (d : Device S) (setup : Setup) → knows_own o (owner_of world.set setup) ≡ false → (addr : ℕ) (ok : Bool)
      → (after_bus (taken_up (own world o) d setup) (event.In addr 0 ok)).core.bus ≡ (taken_up (own world o) d setup).core.bus

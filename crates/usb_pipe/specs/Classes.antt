-- The states of a device's four classes, each at its owner's place. The core has no class: what stands at its place stays as it was.
use Rattle.std.specs.Prelude.{List, [], ◌∷◌}
use Rattle.usb_packet.specs.declared.bus.Owner as declared
use Rattle.usb_packet.specs.declared.bus.Owner.TheVariants.{Core, Cdc, Hid, Msc, Midi}
use Rattle.usb_pipe.specs.Rules.{Rules}

pub record Classes (S : Type 0) : Type 0 where
  pub core : S
  pub cdc : S
  pub hid : S
  pub msc : S
  pub midi : S

-- the state of an owner's class
abbrev pub class_at : {S : Type 0} → Classes S → declared.Owner → S
class_at classes Core = classes.core
class_at classes Cdc = classes.cdc
class_at classes Hid = classes.hid
class_at classes Msc = classes.msc
class_at classes Midi = classes.midi

abbrev pub with_class : {S : Type 0} → Classes S → declared.Owner → S → Classes S
with_class classes Core s = classes
with_class classes Cdc s = record classes { cdc = s }
with_class classes Hid s = record classes { hid = s }
with_class classes Msc s = record classes { msc = s }
with_class classes Midi s = record classes { midi = s }

-- the owners that have a class, in the order in which they work
abbrev pub class_owners : List declared.Owner
class_owners = Cdc ∷ Hid ∷ Msc ∷ Midi ∷ []

-- the class of an owner after something, and each of some
abbrev pub told : {S : Type 0} → (declared.Owner → Rules S) → declared.Owner → (Rules S → S → S) → Classes S → Classes S
told rules o f classes = with_class classes o (f (rules o) (class_at classes o))

abbrev pub told_each : {S : Type 0} → (declared.Owner → Rules S) → List declared.Owner → (Rules S → S → S) → Classes S → Classes S
told_each rules [] f classes = classes
told_each rules (o ∷ os) f classes = told_each rules os f (told rules o f classes)

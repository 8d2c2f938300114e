-- Whose laws these are: a device in a world with any classes, whose descriptors are an accepted set.
use Rattle.std.specs.Prelude.{ℕ, List}
use Rattle.usb_descriptor.specs.declared.limits.EpLimits.{EpLimits}
use Rattle.usb_descriptor.specs.Set.{Set, endpoints_of}
use Rattle.usb_descriptor.specs.Served.{AreServed}
use Rattle.usb_descriptor.specs.Owners.{AreGrouped}
use Rattle.usb_pipe.specs.Rules.{no_class}
use Rattle.device_line.specs.declared.line.DevLine.{DevLine}
use Rattle.device_owners.specs.Calls.{no_calls}
use Rattle.device_owners.specs.Device.{World, Core}
use Rattle.device_owners.specs.Lines.{whole, state_after}

-- what an accepted set promises, whatever its classes do: each endpoint has an address of its own, and its interface's owner
pub record IsOfSet {S : Type 0} (world : World S) : Type 0 where
  pub limits : EpLimits
  pub served : AreServed limits (endpoints_of world.set.config)
  pub grouped : AreGrouped world.set

-- the core of the whole device after these lines
abbrev pub core_after : {S : Type 0} → World S → List DevLine → Core
core_after world lines = (state_after (whole world) lines).core

-- a device without classes
abbrev pub bare : Set → World ℕ
bare set = record {
  set = set;
  rules = λ o. no_class;
  calls = λ o. no_calls;
  first = record { core = 0; cdc = 0; hid = 0; msc = 0; midi = 0 };
}

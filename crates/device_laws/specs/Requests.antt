-- What the table of requests is as a whole: USB 2.0, 9.3 and 9.4, tables 9-2 to 9-4.
use Rattle.std.specs.Prelude.{◌≡◌, ℕ, ◌/◌, ◌%◌, List, [], ◌∷◌, Bool, true, false, not, ◌==◌, ◌&&◌}
use Rattle.std.specs.List.{list_all}
use Rattle.usb_packet.specs.declared.setup.Setup.{Setup}
use Rattle.usb_pipe.specs.declared.decision.Decision.TheVariants.{Data, Take, Status, Stall}
use Rattle.usb_packet.specs.declared.bus.Owner.TheVariants as owner
use Rattle.usb_descriptor.specs.Set.{Set, owner_of_interface}
use Rattle.usb_control.specs.declared.state.Effect.TheVariants as effect
use Rattle.usb_control.specs.declared.state.CoreState.{CoreState}
use Rattle.usb_control.specs.declared.state.Choice.{Choice}
use Rattle.usb_control.specs.declared.state.Choice.TheVariants.{Own, Class}
use Rattle.usb_control.specs.Table.{Row, rows, choice}

-- rows for different requests: bmRequestType or bRequest differs
abbrev pub differs : Row → Row → Bool
differs a b = not ((a.kind == b.kind) && (a.request == b.request))

-- each row from all that follow it
abbrev pub all_differ : List Row → Bool
all_differ [] = true
all_differ (row ∷ rows) = list_all (differs row) rows && all_differ rows

abbrev pub Each : (Row → Type 0) → List Row → Type 0
Each Holds [] = Unit {0}
Each Holds (row ∷ rows) = Holds row × Each Holds rows

-- a request with a row's type and number is done as that row says: no other row hides it
abbrev pub IsDone : Row → Type 0
IsDone row = (set : Set) (state : CoreState) (setup : Setup) → setup.request_type ≡ row.kind → setup.request ≡ row.request → choice set state setup ≡ row.does set state setup

-- another request than a row's: bmRequestType or bRequest differs
abbrev pub IsOther : Setup → Row → Type 0
IsOther setup row = setup.request_type ≡ row.kind → setup.request ≡ row.request → ⊥

-- a request of a class to an interface: bits 6 and 5 of bmRequestType are 1, and bits 4 to 0 are 1 (table 9-2)
abbrev pub IsOfClass : Setup → Type 0
IsOfClass setup = (setup.request_type / 32 % 4 ≡ 1) × (setup.request_type % 32 ≡ 1)

-- the core refuses a request with a stall of endpoint 0, and nothing changes (9.2.7)
abbrev pub IsRefused : Choice → Type 0
IsRefused c = c ≡ Own Stall effect.None

-- A request that no row names is refused, but for one of a class to an interface: that goes to the owner of the interface
-- in its low byte of wIndex, where a session stands and the interface has an owner
pub record AreRefused (set : Set) (state : CoreState) (setup : Setup) : Type 0 where
  pub other : (IsOfClass setup → ⊥) → IsRefused (choice set state setup)
  pub sessionless : state.configured ≡ false → IsRefused (choice set state setup)
  pub ownerless : owner_of_interface set.config (setup.index % 256) ≡ owner.Core → IsRefused (choice set state setup)

abbrev pub UnnamedAreRefused : Type 0
UnnamedAreRefused = (set : Set) (state : CoreState) (setup : Setup) → Each (IsOther setup) rows → AreRefused set state setup

-- bit 7 of bmRequestType: 1 where data goes to the host (table 9-2)
abbrev pub direction : Setup → ℕ
direction setup = setup.request_type / 128 % 2

-- data is given only where the request's direction is to the host, and taken only where it is to the device
abbrev pub GoesWith : Setup → Choice → Type 0
GoesWith setup (Own (Data bytes) e) = direction setup ≡ 1
GoesWith setup (Own (Take n) e) = direction setup ≡ 0
GoesWith setup (Own Status e) = Unit {0}
GoesWith setup (Own Stall e) = Unit {0}
GoesWith setup (Class owner) = Unit {0}

abbrev pub Directions : Type 0
Directions = (set : Set) (state : CoreState) (setup : Setup) → GoesWith setup (choice set state setup)

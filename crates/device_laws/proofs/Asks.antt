-- What the table answers to SET_ADDRESS, and to all else.
use Rattle.std.proofs.Common.{◌≡◌, ◌<◌, ℕ, Option, Some, None, rules}
use Rattle.usb_packet.specs.declared.setup.Setup.{Setup}
use Rattle.usb_pipe.specs.declared.decision.Decision.TheVariants.{Data, Take, Status, Stall}
use Rattle.usb_descriptor.specs.Set.{Set}
use Rattle.usb_control.specs.declared.state.CoreState.{CoreState}
use Rattle.usb_control.specs.declared.state.Effect.{Effect}
use Rattle.usb_control.specs.declared.state.Effect.TheVariants as effect
use Rattle.usb_control.specs.declared.state.Choice.{Choice}
use Rattle.usb_control.specs.declared.state.Choice.TheVariants.{Own, Class}
use Rattle.usb_control.specs.Table.{choice}
use Rattle.device_laws.specs.Seen.{asked_of}

abbrev pub address_of : Effect → Option ℕ
address_of (effect.Address n) = Some n
address_of effect.None = None
address_of (effect.Configure begins) = None
address_of (effect.Halt a) = None
address_of (effect.Clear a) = None
address_of (effect.ClearInterface n) = None

abbrev pub Bounded : Effect → Type 0
Bounded (effect.Address n) = n < 128
Bounded effect.None = Unit {0}
Bounded (effect.Configure begins) = Unit {0}
Bounded (effect.Halt a) = Unit {0}
Bounded (effect.Clear a) = Unit {0}
Bounded (effect.ClearInterface n) = Unit {0}

abbrev pub Asks : Setup → Choice → Type 0
Asks setup (Own (Data bytes) e) = asked_of setup ≡ None
Asks setup (Own (Take n) e) = Unit {0}
Asks setup (Own Status e) = (asked_of setup ≡ address_of e) × Bounded e
Asks setup (Own Stall e) = Unit {0}
Asks setup (Class owner) = asked_of setup ≡ None

pub asks : (set : Set) (state : CoreState) (setup : Setup) → Asks setup (choice set state setup)
asks set state setup = search rules

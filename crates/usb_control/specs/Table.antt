-- What a device does at each request on endpoint 0: USB 2.0, 9.4, tables 9-3 and 9-4.
use Rattle.std.specs.Prelude.{ℕ, ◌/◌, ◌%◌, List, [], ◌∷◌, Bool, false, not, ◌==◌, ◌&&◌, ◌||◌, nat_le, slice_index, Option, Some, None, if◌then◌else◌, find}
use Rattle.std.specs.List.{list_any}
use Rattle.usb_packet.specs.declared.setup.Setup.{Setup}
use Rattle.usb_packet.specs.declared.bus.Owner as declared
use Rattle.usb_packet.specs.declared.bus.Owner.TheVariants as owner
use Rattle.usb_pipe.specs.declared.decision.Decision.TheVariants.{Data, Status, Stall}
use Rattle.usb_descriptor.specs.Set.{Set, endpoints_of, interfaces_of, is_numbered, is_addressed, is_core, owner_of_interface, owner_of_endpoint, hid_bytes}
use Rattle.usb_descriptor.specs.Strings.{string_of}
use Rattle.usb_control.specs.declared.state.CoreState.{CoreState}
use Rattle.usb_control.specs.declared.state.Effect.{Effect}
use Rattle.usb_control.specs.declared.state.Effect.TheVariants as effect
use Rattle.usb_control.specs.declared.state.Choice.{Choice}
use Rattle.usb_control.specs.declared.state.Choice.TheVariants.{Own, Class}

-- at the start and after a bus reset
abbrev pub unconfigured : CoreState
unconfigured = record { addr = 0; configured = false; halted = record { items = [] } }

-- the core gives these bytes; it passes to the status stage, with an effect; it refuses (9.2.7)
abbrev pub gives : List ℕ → Choice
gives bytes = Own (Data (record { items = bytes })) effect.None

abbrev pub status : Effect → Choice
status e = Own Status e

abbrev pub stalled : Choice
stalled = Own Stall effect.None

-- what is refused but under a condition
abbrev pub only : Bool → Choice → Choice
only allowed choice = if allowed then choice else stalled

-- the low byte of wIndex, which names the interface or the endpoint (9.3.4)
abbrev pub named : Setup → ℕ
named setup = setup.index % 256

-- bits 4 to 0 of bmRequestType: an interface is 1, an endpoint 2 (table 9-2)
abbrev pub recipient : Setup → ℕ
recipient setup = setup.request_type % 32

-- the owner of a request: that of its interface or endpoint, else the core
abbrev pub owner_of : Set → Setup → declared.Owner
owner_of set setup =
    if recipient setup == 1 then owner_of_interface set.config (named setup)
    else (if recipient setup == 2 then owner_of_endpoint set.config (named setup) else owner.Core)

-- a session stands, and the set has the interface
abbrev pub has_interface : Set → CoreState → Setup → Bool
has_interface set state setup = state.configured && list_any (is_numbered (named setup)) (interfaces_of set.config)

-- endpoint 0, in either direction
abbrev pub is_zero : Setup → Bool
is_zero setup = (named setup == 0) || (named setup == 0x80)

-- endpoint 0; or a session stands, and the set has the endpoint
abbrev pub has_endpoint : Set → CoreState → Setup → Bool
has_endpoint set state setup = is_zero setup || (state.configured && list_any (is_addressed (named setup)) (endpoints_of set.config))

-- the address of an endpoint that is halted
abbrev pub is_at : ℕ → ℕ → Bool
is_at a halted = halted == a

abbrev pub is_halted : CoreState → ℕ → Bool
is_halted state a = list_any (is_at a) state.halted.items

-- bit 6 of bmAttributes says that the device has power of its own (9.6.3)
abbrev pub self_powered : Set → ℕ
self_powered set = slice_index set.config 7 / 64 % 2

-- bConfigurationValue (9.6.3)
abbrev pub configuration_value : Set → ℕ
configuration_value set = slice_index set.config 5

-- the descriptor that wValue asks for: its type in the high byte, and an index (9.4.3, table 9-5)
abbrev pub descriptor_of : Set → ℕ → Option (List ℕ)
descriptor_of set value =
    if value == 0x0100 then Some set.device
    else (if value == 0x0200 then Some set.config
    else (if value / 256 == 3 then string_of set.strings (value % 256) else None))

abbrev pub given : Option (List ℕ) → Choice
given None = stalled
given (Some bytes) = gives bytes

-- the descriptor of HID that wValue asks for: its own is type 21, that of its reports type 22, each with index 0 (HID 1.11,
-- 7.1.1)
abbrev pub hid_descriptor_of : Set → ℕ → Option (List ℕ)
hid_descriptor_of set value =
    if value == 0x2100 then hid_bytes set.config
    else (if value == 0x2200 then set.report else None)

-- the descriptors that the class of an interface gives: HID alone gives any
abbrev pub class_descriptor : declared.Owner → Set → ℕ → Choice
class_descriptor owner.Core set value = stalled
class_descriptor owner.Cdc set value = stalled
class_descriptor owner.Hid set value = given (hid_descriptor_of set value)
class_descriptor owner.Msc set value = stalled
class_descriptor owner.Midi set value = stalled

-- ENDPOINT_HALT of endpoint 0 isn't changed
abbrev pub unless_zero : Setup → Effect → Effect
unless_zero setup e = if is_zero setup then effect.None else e

-- a row of the table: bmRequestType, bRequest, and what is done
pub record Row : Type 0 where
  pub kind : ℕ
  pub request : ℕ
  pub does : Set → CoreState → Setup → Choice

abbrev pub rows : List Row
rows =
    -- GET_STATUS of the device (9.4.5)
    record { kind = 0x80; request = 0; does = λ set state setup. gives (self_powered set ∷ 0 ∷ []) }
    -- of an interface
    ∷ record { kind = 0x81; request = 0; does = λ set state setup. only (has_interface set state setup) (gives (0 ∷ 0 ∷ [])) }
    -- of an endpoint
    ∷ record {
      kind = 0x82;
      request = 0;
      does = λ set state setup. only (has_endpoint set state setup)
          (gives ((if is_halted state (named setup) then 1 else 0) ∷ 0 ∷ []));
    }
    -- CLEAR_FEATURE of ENDPOINT_HALT (9.4.1, table 9-6)
    ∷ record {
      kind = 0x02;
      request = 1;
      does = λ set state setup. only ((setup.value == 0) && has_endpoint set state setup)
          (status (unless_zero setup (effect.Clear (named setup))));
    }
    -- SET_FEATURE of ENDPOINT_HALT (9.4.9)
    ∷ record {
      kind = 0x02;
      request = 3;
      does = λ set state setup. only ((setup.value == 0) && has_endpoint set state setup)
          (status (unless_zero setup (effect.Halt (named setup))));
    }
    -- SET_ADDRESS (9.4.6)
    ∷ record { kind = 0x00; request = 5; does = λ set state setup. only (nat_le setup.value 127) (status (effect.Address setup.value)) }
    -- GET_DESCRIPTOR (9.4.3)
    ∷ record { kind = 0x80; request = 6; does = λ set state setup. given (descriptor_of set setup.value) }
    -- of an interface, whose class has it
    ∷ record { kind = 0x81; request = 6; does = λ set state setup. only state.configured (class_descriptor (owner_of set setup) set setup.value) }
    -- GET_CONFIGURATION (9.4.2)
    ∷ record { kind = 0x80; request = 8; does = λ set state setup. gives ((if state.configured then configuration_value set else 0) ∷ []) }
    -- SET_CONFIGURATION (9.4.7)
    ∷ record {
      kind = 0x00;
      request = 9;
      does = λ set state setup. only ((setup.value == 0) || (setup.value == configuration_value set))
          (status (effect.Configure (not (setup.value == 0))));
    }
    -- GET_INTERFACE (9.4.4)
    ∷ record { kind = 0x81; request = 0x0a; does = λ set state setup. only (has_interface set state setup) (gives (0 ∷ [])) }
    -- SET_INTERFACE (9.4.10)
    ∷ record {
      kind = 0x01;
      request = 0x0b;
      does = λ set state setup. only (has_interface set state setup && (setup.value == 0))
          (status (effect.ClearInterface (named setup)));
    }
    ∷ []

abbrev pub is_row_of : Setup → Row → Bool
is_row_of setup row = (row.kind == setup.request_type) && (row.request == setup.request)

-- a class request to an interface goes to its owner; those of the core are refused
abbrev pub handed : declared.Owner → Choice
handed o = if is_core o then stalled else Class o

-- what isn't in the table: class requests to an interface need a session, all else is refused
abbrev pub class_choice : Set → CoreState → Setup → Choice
class_choice set state setup =
    only (((setup.request_type == 0x21) || (setup.request_type == 0xa1)) && state.configured) (handed (owner_of set setup))

abbrev pub chosen : Option Row → Set → CoreState → Setup → Choice
chosen None set state setup = class_choice set state setup
chosen (Some row) set state setup = row.does set state setup

-- what is done at a request
abbrev pub choice : Set → CoreState → Setup → Choice
choice set state setup = chosen (find (is_row_of setup) rows) set state setup

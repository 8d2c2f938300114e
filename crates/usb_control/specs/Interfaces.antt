-- What GET_DESCRIPTOR of an interface gives: USB 2.0, 9.4.3; HID 1.11, 7.1.1.
use Rattle.std.specs.Prelude.{◌≡◌, ◌%◌, [], ◌∷◌, true, false, Some}
use Rattle.usb_packet.specs.declared.setup.Setup.{Setup}
use Rattle.usb_packet.specs.declared.bus.Owner.TheVariants as owner
use Rattle.usb_descriptor.specs.Set.{Set, hid_bytes, owner_of_interface}
use Rattle.usb_descriptor.specs.ReportExamples.{device}
use Rattle.descriptor_groups.specs.ReportExamples.{two_named, no_field}
use Rattle.usb_control.specs.declared.state.CoreState.{CoreState}
use Rattle.usb_control.specs.Table.{choice, given, gives, stalled, class_descriptor}

-- GET_DESCRIPTOR of an interface: bmRequestType 81, bRequest 6
abbrev pub IsAsked : Setup → Type 0
IsAsked setup = (setup.request_type ≡ 0x81) × (setup.request ≡ 6)

-- the interface that it names is HID's
abbrev pub IsOfHid : Set → Setup → Type 0
IsOfHid set setup = owner_of_interface set.config (setup.index % 256) ≡ owner.Hid

-- In a session an interface of HID gives its HID descriptor, whole, and the report descriptor. All else is refused.
pub record GivesOfHid (set : Set) (state : CoreState) (setup : Setup) : Type 0 where
  pub hid : state.configured ≡ true → IsOfHid set setup → setup.value ≡ 0x2100 → choice set state setup ≡ given (hid_bytes set.config)
  pub report : state.configured ≡ true → IsOfHid set setup → setup.value ≡ 0x2200 → choice set state setup ≡ given set.report
  pub other : (setup.value ≡ 0x2100 → ⊥) → (setup.value ≡ 0x2200 → ⊥) → choice set state setup ≡ stalled
  pub not_hid : (IsOfHid set setup → ⊥) → choice set state setup ≡ stalled
  pub sessionless : state.configured ≡ false → choice set state setup ≡ stalled

abbrev pub InterfacesGive : Type 0
InterfacesGive = (set : Set) (state : CoreState) (setup : Setup) → IsAsked setup → GivesOfHid set state setup

-- a set whose HID descriptor has 12 bytes and whose report descriptor has 4
abbrev pub hid_set : Set
hid_set = record { device = device; config = two_named; strings = []; report = Some no_field }

pub record DescriptorsWorked : Type 0 where
  pub hid : class_descriptor owner.Hid hid_set 0x2100 ≡ gives (12 ∷ 33 ∷ 17 ∷ 1 ∷ 0 ∷ 2 ∷ 34 ∷ 4 ∷ 0 ∷ 35 ∷ 4 ∷ 0 ∷ [])
  pub report : class_descriptor owner.Hid hid_set 0x2200 ≡ gives (0x75 ∷ 8 ∷ 0x95 ∷ 1 ∷ [])
  pub physical : class_descriptor owner.Hid hid_set 0x2300 ≡ stalled
  pub second_report : class_descriptor owner.Hid hid_set 0x2201 ≡ stalled
  pub of_serial : class_descriptor owner.Cdc hid_set 0x2100 ≡ stalled
  pub of_core : class_descriptor owner.Core hid_set 0x2200 ≡ stalled

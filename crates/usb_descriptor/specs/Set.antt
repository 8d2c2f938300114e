-- What an accepted set shows: its bytes, and its interfaces and endpoints with their owners.
use Rattle.std.specs.Prelude.{◌≡◌, ℕ, List, [], ◌∷◌, Bool, true, false, ◌==◌, ◌&&◌, ◌||◌, position, Option, Some, None, if◌then◌else◌, map, filter, find}
use Rattle.std.specs.List.{list_any}
use Rattle.usb_packet.specs.declared.bus.Owner.{Owner}
use Rattle.usb_packet.specs.declared.bus.Owner.TheVariants.{Core, Cdc, Hid, Msc, Midi}
use Rattle.descriptor_row.specs.declared.descriptor.Descriptor.{Descriptor}
use Rattle.usb_descriptor.specs.declared.endpoint.EpKind.{EpKind}
use Rattle.usb_descriptor.specs.declared.endpoint.EpKind.TheVariants.{Bulk, Interrupt}
use Rattle.usb_descriptor.specs.declared.endpoint.Endpoint.{Endpoint}
use Rattle.usb_descriptor.specs.declared.endpoint.Interface.{Interface}
use Rattle.usb_descriptor.specs.declared.strings.StringDescriptor.{StringDescriptor}
use Rattle.usb_descriptor.specs.declared.limits.EpLimits.{EpLimits}
use Rattle.descriptor_row.specs.Row.{byte, row_of, whole_at}
use Rattle.descriptor_row.specs.Kinds.{is_interface, is_endpoint, number, address, transfer, bulk, following_place, left_of}
use Rattle.descriptor_groups.specs.Groups.{owner_of_number, lead_number}
use Rattle.descriptor_groups.specs.Reports.{hid_descriptor}
use Rattle.usb_descriptor.specs.Verdict.{verdict}

-- a set, by the descriptors that a host can ask for
pub record Set : Type 0 where
  pub device : List ℕ
  pub config : List ℕ
  pub strings : List StringDescriptor
  pub report : Option (List ℕ)

-- whether a set is accepted: it breaks none of the eighteen rules
abbrev pub IsAccepted : Set → EpLimits → Type 0
IsAccepted set limits = verdict set.device set.config set.report limits ≡ None

abbrev pub kind_of : ℕ → EpKind
kind_of transfer = if transfer == bulk then Bulk else Interrupt

-- bEndpointAddress, bmAttributes and wMaxPacketSize (USB 2.0, 9.6.6). The twelfth rule has the size at most
-- 64, so that its lower byte is all of it.
abbrev pub endpoint_of : Owner → Descriptor → Endpoint
endpoint_of owner d = record { addr = address d; kind = kind_of (transfer d); size = byte d 4; owner = owner }

-- an interface, by what says who has the interface of a number
abbrev pub interface_at : (ℕ → Owner) → Descriptor → Interface
interface_at owner d = record { number = number d; owner = owner (number d) }

-- who has what stands behind a descriptor, where that owner has what stands behind the one before it: an
-- interface has all up to the next interface (9.6.5)
abbrev pub owner_behind : (ℕ → Owner) → Owner → Descriptor → Owner
owner_behind owner before d = if is_interface d then owner (number d) else before

-- the endpoints of descriptors, in their order, where that owner has what stands before the first interface
abbrev pub endpoints_behind : (ℕ → Owner) → Owner → List Descriptor → List Endpoint
endpoints_behind owner before [] = []
endpoints_behind owner before (d ∷ ds) =
    if is_endpoint d then endpoint_of before d ∷ endpoints_behind owner before ds
    else endpoints_behind owner (owner_behind owner before d) ds

-- the endpoints and the interfaces of a row, in its order; before the first interface all is the core's
abbrev pub endpoints_by : (ℕ → Owner) → List Descriptor → List Endpoint
endpoints_by owner row = endpoints_behind owner Core row

abbrev pub interfaces_by : (ℕ → Owner) → List Descriptor → List Interface
interfaces_by owner row = map (interface_at owner) (filter is_interface row)

abbrev pub endpoints_in : List Descriptor → List Endpoint
endpoints_in row = endpoints_by (owner_of_number row) row

abbrev pub interfaces_in : List Descriptor → List Interface
interfaces_in row = interfaces_by (owner_of_number row) row

-- those of a configuration, without its passed-over parts
abbrev pub endpoints_of : List ℕ → List Endpoint
endpoints_of config = endpoints_in (left_of (row_of config))

abbrev pub interfaces_of : List ℕ → List Interface
interfaces_of config = interfaces_in (left_of (row_of config))

abbrev pub is_numbered : ℕ → Interface → Bool
is_numbered n i = i.number == n

abbrev pub is_addressed : ℕ → Endpoint → Bool
is_addressed a e = e.addr == a

-- an interface of a number, and an endpoint at an address, in a row
abbrev pub is_interface_of : ℕ → Descriptor → Bool
is_interface_of n d = is_interface d && number d == n

abbrev pub is_endpoint_at : ℕ → Descriptor → Bool
is_endpoint_at a d = is_endpoint d && address d == a

-- what follows the interface of a number, up to the next one; nothing where there is none
abbrev pub interface_row : ℕ → List Descriptor → List Descriptor
interface_row n row = following_place (position (is_interface_of n) row) row

-- whether the interface of a number has an endpoint at an address
abbrev pub has_endpoint : List ℕ → ℕ → ℕ → Bool
has_endpoint config n a = list_any (is_endpoint_at a) (interface_row n (left_of (row_of config)))

abbrev pub is_core : Owner → Bool
is_core Core = true
is_core o = false

abbrev pub same_owner : Owner → Owner → Bool
same_owner Core Core = true
same_owner Cdc Cdc = true
same_owner Hid Hid = true
same_owner Msc Msc = true
same_owner Midi Midi = true
same_owner a b = false

abbrev pub belongs : Owner → Interface → Bool
belongs owner i = same_owner i.owner owner

-- what isn't there is the core's
abbrev pub interface_owner : Option Interface → Owner
interface_owner None = Core
interface_owner (Some i) = i.owner

abbrev pub endpoint_owner : Option Endpoint → Owner
endpoint_owner None = Core
endpoint_owner (Some e) = e.owner

abbrev pub owner_of_interface : List ℕ → ℕ → Owner
owner_of_interface config n = interface_owner (find (is_numbered n) (interfaces_of config))

abbrev pub owner_of_endpoint : List ℕ → ℕ → Owner
owner_of_endpoint config a = endpoint_owner (find (is_addressed a) (endpoints_of config))

-- whether a set has an owner: the core, or one of an interface
abbrev pub has_owner : List ℕ → Owner → Bool
has_owner config owner = is_core owner || list_any (belongs owner) (interfaces_of config)

-- the interface that stands for a class that is built; the core is no class
abbrev pub interface_of : List ℕ → Owner → Option ℕ
interface_of config owner = lead_number (left_of (row_of config)) owner

-- the bytes of a descriptor of a configuration, whole
abbrev pub bytes_in : List ℕ → Option Descriptor → Option (List ℕ)
bytes_in config None = None
bytes_in config (Some d) = whole_at config d.at

-- the HID descriptor of the first HID interface, with all the descriptors that it names (HID 1.11, 6.2.1)
abbrev pub hid_bytes : List ℕ → Option (List ℕ)
hid_bytes config = bytes_in config (hid_descriptor (left_of (row_of config)))

-- Which interfaces of a row one class drives together: its group. Each class has one, by the first interface that stands for
-- it; all else is the core's. An interface goes by its number (USB 2.0, 9.6.5).
use Rattle.std.specs.Prelude.{◌≡◌, ℕ, List, Bool, true, false, ◌==◌, ◌||◌, Option, Some, None, if◌then◌else◌, position, find, filter, map}
use Rattle.std.specs.List.{IsDistinct}
use Rattle.std.specs.Option.{option_map}
use Rattle.usb_packet.specs.declared.bus.Owner.{Owner}
use Rattle.usb_packet.specs.declared.bus.Owner.TheVariants.{Core, Cdc, Hid, Msc, Midi}
use Rattle.descriptor_row.specs.declared.descriptor.Descriptor.{Descriptor}
use Rattle.descriptor_row.specs.Row.{byte}
use Rattle.descriptor_row.specs.Kinds.{is_interface, number, following_place}
use Rattle.descriptor_groups.specs.Parts.{is_serial, is_union, is_hid, is_storage, is_midi}

-- an interface that stands for a class: the communications interface (CDC 1.2, 4.2 and 4.3), the HID interface (HID 1.11,
-- 4.1), the one of mass storage (Bulk-Only 1.0, 4.3), the one of MIDI streaming (USB MIDI 1.0, 6.1.1)
abbrev pub is_lead : Owner → Descriptor → Bool
is_lead Core d = false
is_lead Cdc d = is_serial d
is_lead Hid d = is_hid d
is_lead Msc d = is_storage d
is_lead Midi d = is_midi d

-- the first of a row
abbrev pub lead : Owner → List Descriptor → Option Descriptor
lead class row = find (is_lead class) row

abbrev pub is_number_of : Option Descriptor → ℕ → Bool
is_number_of None n = false
is_number_of (Some d) n = number d == n

-- whether the interface of a number is the one that stands for a class
abbrev pub leads : List Descriptor → Owner → ℕ → Bool
leads row class n = is_number_of (lead class row) n

-- the first good union descriptor of a communications interface, up to the next interface (CDC 1.2, 5.2.3.2)
abbrev pub union_behind : List Descriptor → Option Descriptor → Option Descriptor
union_behind row None = None
union_behind row (Some d) = find (is_union row (number d)) (following_place (position is_serial row) row)

-- the one of the first communications interface
abbrev pub serial_union : List Descriptor → Option Descriptor
serial_union row = union_behind row (lead Cdc row)

-- byte 4 of a union descriptor, bSubordinateInterface0, is the number of the data interface
abbrev pub is_subordinate : Option Descriptor → ℕ → Bool
is_subordinate None n = false
is_subordinate (Some union) n = byte union 4 == n

-- whether the interface of a number is the data interface of the serial port
abbrev pub is_serial_data : List Descriptor → ℕ → Bool
is_serial_data row n = is_subordinate (serial_union row) n

-- whose group has the interface of a number
abbrev pub group_owner : List Descriptor → ℕ → Owner
group_owner row n =
    if leads row Cdc n || is_serial_data row n then Cdc
    else (if leads row Hid n then Hid
    else (if leads row Msc n then Msc
    else (if leads row Midi n then Midi else Core)))

-- The classes that are built into the device. A group whose class isn't built stays the core's.
abbrev pub is_built : Owner → Bool
is_built Core = true
is_built Cdc = true
is_built Hid = true
is_built Msc = false
is_built Midi = true

-- the owner of the interface of a number, where a test says which classes are built
abbrev pub owner_by : (Owner → Bool) → List Descriptor → ℕ → Owner
owner_by built row n = if built (group_owner row n) then group_owner row n else Core

abbrev pub owner_of_number : List Descriptor → ℕ → Owner
owner_of_number row n = owner_by is_built row n

-- the number of the interface that stands for a class that is built
abbrev pub lead_by : (Owner → Bool) → List Descriptor → Owner → Option ℕ
lead_by built row class = if built class then option_map number (lead class row) else None

abbrev pub lead_number : List Descriptor → Owner → Option ℕ
lead_number row class = lead_by is_built row class

-- the numbers of the interfaces of a row
abbrev pub numbers : List Descriptor → List ℕ
numbers row = map number (filter is_interface row)

-- Where no two interfaces have one number, the interface that stands for a class is of its group.
abbrev pub LeadsBelong : Type 0
LeadsBelong =
    (row : List Descriptor) (class : Owner) (n : ℕ) → IsDistinct (λ a b. a == b) (numbers row) → leads row class n ≡ true
    → group_owner row n ≡ class

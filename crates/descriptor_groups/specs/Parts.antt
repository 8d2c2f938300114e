-- The parts of each class's group of interfaces, and what three rules of a set ask of the first of each class: the fifteenth
-- of a serial port, the sixteenth of HID, the eighteenth of mass storage and of MIDI streaming. A descriptor stands in a row:
-- the descriptors before it, and those after it. A code of a class, a subclass, a protocol or a descriptor type is written as
-- the number that it is.
use Rattle.std.specs.Prelude.{ℕ, ◌+◌, List, Bool, false, not, ◌==◌, ◌&&◌, ◌||◌, nat_le, Option, Some, None, count_by, position, find}
use Rattle.std.specs.List.{list_any}
use Rattle.descriptor_row.specs.declared.descriptor.Descriptor.{Descriptor}
use Rattle.descriptor_row.specs.Row.{byte, size, kind, word}
use Rattle.descriptor_row.specs.Kinds.{is_endpoint, number, is_of_class, is_of_subclass, is_of_protocol, bulk, interrupt, is_in_of, is_out_of, following, following_place}

-- the first interface that a test takes: it does, and takes none before
abbrev pub is_first : (Descriptor → Bool) → List Descriptor → Descriptor → Bool
is_first takes before d = takes d && not (list_any takes before)

-- one bulk IN and one bulk OUT endpoint, and no other
abbrev pub is_bulk_pair : List Descriptor → Bool
is_bulk_pair after =
    (count_by is_endpoint after == 2) && ((count_by (is_in_of bulk) after == 1) && (count_by (is_out_of bulk) after == 1))

-- the communications interface of class 02, subclass 02 (CDC 1.2, 4.2 and 4.3)
abbrev pub is_serial : Descriptor → Bool
is_serial d = is_of_subclass 2 2 d

-- the data interface of class 0a with a number (CDC 1.2, 4.5)
abbrev pub is_data : ℕ → Descriptor → Bool
is_data n d = is_of_class 10 d && number d == n

-- a union descriptor, type 24 and subtype 06, of a controlling interface and a data interface that is
-- there (CDC 1.2, 5.2.3.2)
abbrev pub is_union : List Descriptor → ℕ → Descriptor → Bool
is_union row controlling d =
    (kind d == 36) && ((byte d 2 == 6) && (nat_le 5 (size d) && ((byte d 3 == controlling) && list_any (is_data (byte d 4)) row)))

-- the endpoints of the data interface that a union descriptor names
abbrev pub has_data_pair : List Descriptor → Option Descriptor → Bool
has_data_pair row None = false
has_data_pair row (Some union) = is_bulk_pair (following_place (position (is_data (byte union 4)) row) row)

-- a serial interface has one endpoint, interrupt IN, and a data interface with a bulk pair
abbrev pub is_serial_group : List Descriptor → Descriptor → List Descriptor → Bool
is_serial_group row d after =
    (count_by is_endpoint after == 1) && ((count_by (is_in_of interrupt) after == 1)
    && has_data_pair row (find (is_union row (number d)) after))

-- the fifteenth
abbrev pub has_wrong_serial : List Descriptor → List Descriptor → Descriptor → List Descriptor → Bool
has_wrong_serial row before d after = is_first is_serial before d && not (is_serial_group row d (following after))

-- an interface of class 03 (HID 1.11, 4.1)
abbrev pub is_hid : Descriptor → Bool
is_hid d = is_of_class 3 d

-- a HID descriptor, type 21, of a report descriptor, type 22, with 1 to 512 bytes (HID 1.11, 6.2.1)
abbrev pub is_hid_descriptor : Descriptor → Bool
is_hid_descriptor d =
    (kind d == 33) && (nat_le 9 (size d) && ((byte d 6 == 34) && (nat_le 1 (word d 7) && nat_le (word d 7) 512)))

-- a HID interface has one interrupt IN endpoint, at most one interrupt OUT, and no other (HID 1.11, 4.4)
abbrev pub is_hid_group : List Descriptor → Bool
is_hid_group after =
    list_any is_hid_descriptor after && ((count_by (is_in_of interrupt) after == 1) && (nat_le (count_by (is_out_of interrupt) after) 1
    && (count_by is_endpoint after == 1 + count_by (is_out_of interrupt) after)))

-- the sixteenth
abbrev pub has_wrong_hid : List Descriptor → Descriptor → List Descriptor → Bool
has_wrong_hid before d after = is_first is_hid before d && not (is_hid_group (following after))

-- mass storage of class 08, subclass 06, protocol 50 (Bulk-Only 1.0, 4.3); MIDI streaming of class 01,
-- subclass 03 (USB MIDI 1.0, 6.1.1)
abbrev pub is_storage : Descriptor → Bool
is_storage d = is_of_protocol 8 6 80 d

abbrev pub is_midi : Descriptor → Bool
is_midi d = is_of_subclass 1 3 d

-- the eighteenth
abbrev pub has_wrong_pair : List Descriptor → Descriptor → List Descriptor → Bool
has_wrong_pair before d after =
    (is_first is_storage before d || is_first is_midi before d) && not (is_bulk_pair (following after))

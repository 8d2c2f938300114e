-- Configurations worked by hand (USB 2.0, 9.6; CDC 1.2, 5.2.3.2), and whose groups have their interfaces.
use Rattle.std.specs.Prelude.{◌≡◌, ℕ, List, [], ◌∷◌, Bool, true, false, Option, Some, None, map}
use Rattle.usb_packet.specs.declared.bus.Owner.{Owner}
use Rattle.usb_packet.specs.declared.bus.Owner.TheVariants.{Core, Cdc, Hid, Msc, Midi}
use Rattle.descriptor_row.specs.declared.descriptor.Descriptor.{Descriptor}
use Rattle.descriptor_row.specs.Row.{row_of}
use Rattle.descriptor_row.specs.Kinds.{left_of}
use Rattle.descriptor_groups.specs.Groups.{group_owner, owner_by, lead_by}

-- a serial port whose data interface stands before its communications interface
abbrev pub data_first : List ℕ
data_first =
    9 ∷ 2 ∷ 53 ∷ 0 ∷ 2 ∷ 1 ∷ 0 ∷ 128 ∷ 50
    ∷ 9 ∷ 4 ∷ 0 ∷ 0 ∷ 2 ∷ 10 ∷ 0 ∷ 0 ∷ 0
    ∷ 7 ∷ 5 ∷ 0x01 ∷ 2 ∷ 64 ∷ 0 ∷ 0
    ∷ 7 ∷ 5 ∷ 0x82 ∷ 2 ∷ 64 ∷ 0 ∷ 0
    ∷ 9 ∷ 4 ∷ 1 ∷ 0 ∷ 1 ∷ 2 ∷ 2 ∷ 0 ∷ 0
    ∷ 5 ∷ 36 ∷ 6 ∷ 1 ∷ 0
    ∷ 7 ∷ 5 ∷ 0x81 ∷ 3 ∷ 16 ∷ 0 ∷ 10 ∷ []

-- a serial port, by an association and with four descriptors of its class, and mass storage
abbrev pub serial_and_storage : List ℕ
serial_and_storage =
    9 ∷ 2 ∷ 98 ∷ 0 ∷ 3 ∷ 1 ∷ 0 ∷ 128 ∷ 50
    ∷ 8 ∷ 11 ∷ 0 ∷ 2 ∷ 2 ∷ 2 ∷ 0 ∷ 0
    ∷ 9 ∷ 4 ∷ 0 ∷ 0 ∷ 1 ∷ 2 ∷ 2 ∷ 0 ∷ 0
    ∷ 5 ∷ 36 ∷ 0 ∷ 32 ∷ 1
    ∷ 5 ∷ 36 ∷ 1 ∷ 0 ∷ 1
    ∷ 4 ∷ 36 ∷ 2 ∷ 2
    ∷ 5 ∷ 36 ∷ 6 ∷ 0 ∷ 1
    ∷ 7 ∷ 5 ∷ 0x81 ∷ 3 ∷ 16 ∷ 0 ∷ 16
    ∷ 9 ∷ 4 ∷ 1 ∷ 0 ∷ 2 ∷ 10 ∷ 0 ∷ 0 ∷ 0
    ∷ 7 ∷ 5 ∷ 0x01 ∷ 2 ∷ 64 ∷ 0 ∷ 0
    ∷ 7 ∷ 5 ∷ 0x82 ∷ 2 ∷ 64 ∷ 0 ∷ 0
    ∷ 9 ∷ 4 ∷ 2 ∷ 0 ∷ 2 ∷ 8 ∷ 6 ∷ 80 ∷ 0
    ∷ 7 ∷ 5 ∷ 0x02 ∷ 2 ∷ 64 ∷ 0 ∷ 0
    ∷ 7 ∷ 5 ∷ 0x83 ∷ 2 ∷ 64 ∷ 0 ∷ 0 ∷ []

-- two serial ports: interface 1 with 4, and 2 with 0. The first has three union descriptors: of a data interface that isn't
-- there, of another controlling interface, and its own. Interface 3 is a data interface of none.
abbrev pub two_serials : List ℕ
two_serials =
    9 ∷ 2 ∷ 102 ∷ 0 ∷ 5 ∷ 1 ∷ 0 ∷ 128 ∷ 50
    ∷ 9 ∷ 4 ∷ 0 ∷ 0 ∷ 0 ∷ 10 ∷ 0 ∷ 0 ∷ 0
    ∷ 9 ∷ 4 ∷ 1 ∷ 0 ∷ 1 ∷ 2 ∷ 2 ∷ 1 ∷ 0
    ∷ 5 ∷ 36 ∷ 6 ∷ 1 ∷ 7
    ∷ 5 ∷ 36 ∷ 6 ∷ 2 ∷ 0
    ∷ 5 ∷ 36 ∷ 6 ∷ 1 ∷ 4
    ∷ 7 ∷ 5 ∷ 0x81 ∷ 3 ∷ 8 ∷ 0 ∷ 10
    ∷ 9 ∷ 4 ∷ 2 ∷ 0 ∷ 1 ∷ 2 ∷ 2 ∷ 1 ∷ 0
    ∷ 5 ∷ 36 ∷ 6 ∷ 2 ∷ 0
    ∷ 7 ∷ 5 ∷ 0x82 ∷ 3 ∷ 8 ∷ 0 ∷ 10
    ∷ 9 ∷ 4 ∷ 3 ∷ 0 ∷ 0 ∷ 10 ∷ 0 ∷ 0 ∷ 0
    ∷ 9 ∷ 4 ∷ 4 ∷ 0 ∷ 2 ∷ 10 ∷ 0 ∷ 0 ∷ 0
    ∷ 7 ∷ 5 ∷ 0x02 ∷ 2 ∷ 64 ∷ 0 ∷ 0
    ∷ 7 ∷ 5 ∷ 0x83 ∷ 2 ∷ 64 ∷ 0 ∷ 0 ∷ []

-- audio control (class 01, subclass 01), MIDI streaming (subclass 03), and HID with its descriptor
abbrev pub hid_and_midi : List ℕ
hid_and_midi =
    9 ∷ 2 ∷ 66 ∷ 0 ∷ 3 ∷ 1 ∷ 0 ∷ 128 ∷ 50
    ∷ 9 ∷ 4 ∷ 0 ∷ 0 ∷ 0 ∷ 1 ∷ 1 ∷ 0 ∷ 0
    ∷ 9 ∷ 4 ∷ 1 ∷ 0 ∷ 2 ∷ 1 ∷ 3 ∷ 0 ∷ 0
    ∷ 7 ∷ 5 ∷ 0x02 ∷ 2 ∷ 64 ∷ 0 ∷ 0
    ∷ 7 ∷ 5 ∷ 0x81 ∷ 2 ∷ 64 ∷ 0 ∷ 0
    ∷ 9 ∷ 4 ∷ 2 ∷ 0 ∷ 1 ∷ 3 ∷ 0 ∷ 0 ∷ 0
    ∷ 9 ∷ 33 ∷ 17 ∷ 1 ∷ 0 ∷ 1 ∷ 34 ∷ 52 ∷ 0
    ∷ 7 ∷ 5 ∷ 0x82 ∷ 3 ∷ 8 ∷ 0 ∷ 10 ∷ []

-- HID twice, class 08 with protocol 00, with subclass 02, mass storage twice, MIDI streaming twice; no endpoints
abbrev pub doubles : List ℕ
doubles =
    9 ∷ 2 ∷ 81 ∷ 0 ∷ 8 ∷ 1 ∷ 0 ∷ 128 ∷ 50
    ∷ 9 ∷ 4 ∷ 0 ∷ 0 ∷ 0 ∷ 3 ∷ 1 ∷ 1 ∷ 0
    ∷ 9 ∷ 4 ∷ 1 ∷ 0 ∷ 0 ∷ 3 ∷ 1 ∷ 2 ∷ 0
    ∷ 9 ∷ 4 ∷ 2 ∷ 0 ∷ 0 ∷ 8 ∷ 6 ∷ 0 ∷ 0
    ∷ 9 ∷ 4 ∷ 3 ∷ 0 ∷ 0 ∷ 8 ∷ 2 ∷ 80 ∷ 0
    ∷ 9 ∷ 4 ∷ 4 ∷ 0 ∷ 0 ∷ 8 ∷ 6 ∷ 80 ∷ 0
    ∷ 9 ∷ 4 ∷ 5 ∷ 0 ∷ 0 ∷ 8 ∷ 6 ∷ 80 ∷ 0
    ∷ 9 ∷ 4 ∷ 6 ∷ 0 ∷ 0 ∷ 1 ∷ 3 ∷ 0 ∷ 0
    ∷ 9 ∷ 4 ∷ 7 ∷ 0 ∷ 0 ∷ 1 ∷ 3 ∷ 0 ∷ 0 ∷ []

-- an Ethernet group (class 02, subclass 06) before a serial port whose union descriptor stands behind the next interface; no
-- endpoints
abbrev pub stray_union : List ℕ
stray_union =
    9 ∷ 2 ∷ 64 ∷ 0 ∷ 5 ∷ 1 ∷ 0 ∷ 128 ∷ 50
    ∷ 9 ∷ 4 ∷ 0 ∷ 0 ∷ 0 ∷ 2 ∷ 6 ∷ 0 ∷ 0
    ∷ 5 ∷ 36 ∷ 6 ∷ 0 ∷ 1
    ∷ 9 ∷ 4 ∷ 1 ∷ 0 ∷ 0 ∷ 10 ∷ 0 ∷ 0 ∷ 0
    ∷ 9 ∷ 4 ∷ 2 ∷ 0 ∷ 0 ∷ 2 ∷ 2 ∷ 0 ∷ 0
    ∷ 9 ∷ 4 ∷ 3 ∷ 0 ∷ 0 ∷ 255 ∷ 0 ∷ 0 ∷ 0
    ∷ 5 ∷ 36 ∷ 6 ∷ 2 ∷ 4
    ∷ 9 ∷ 4 ∷ 4 ∷ 0 ∷ 0 ∷ 10 ∷ 0 ∷ 0 ∷ 0 ∷ []

-- tests of the classes that are built: each, and the serial port alone
abbrev pub every : Owner → Bool
every class = true

abbrev pub is_serial_port : Owner → Bool
is_serial_port Cdc = true
is_serial_port Core = false
is_serial_port Hid = false
is_serial_port Msc = false
is_serial_port Midi = false

-- what is left of a configuration without its passed-over parts
abbrev pub rest : List ℕ → List Descriptor
rest config = left_of (row_of config)

-- whose groups have the interfaces of some numbers
abbrev pub owners : List ℕ → List ℕ → List Owner
owners config numbers = map (group_owner (rest config)) numbers

-- the numbers of the interfaces that stand for the classes, where each is built
abbrev pub leading : List ℕ → List (Option ℕ)
leading config = map (lead_by every (rest config)) (Core ∷ Cdc ∷ Hid ∷ Msc ∷ Midi ∷ [])

-- A second group of a class is the core's; a data interface is that of byte 4 of the union descriptor; interface 9 is nowhere.
pub record GroupsWorked : Type 0 where
  pub data_first_owned : owners data_first (0 ∷ 1 ∷ 9 ∷ []) ≡ Cdc ∷ Cdc ∷ Core ∷ []
  pub serial_and_storage_owned : owners serial_and_storage (0 ∷ 1 ∷ 2 ∷ 9 ∷ []) ≡ Cdc ∷ Cdc ∷ Msc ∷ Core ∷ []
  pub two_serials_owned : owners two_serials (0 ∷ 1 ∷ 2 ∷ 3 ∷ 4 ∷ []) ≡ Core ∷ Cdc ∷ Core ∷ Core ∷ Cdc ∷ []
  pub hid_and_midi_owned : owners hid_and_midi (0 ∷ 1 ∷ 2 ∷ []) ≡ Core ∷ Midi ∷ Hid ∷ []
  pub doubles_owned : owners doubles (0 ∷ 1 ∷ 2 ∷ 3 ∷ 4 ∷ 5 ∷ 6 ∷ 7 ∷ []) ≡ Hid ∷ Core ∷ Core ∷ Core ∷ Msc ∷ Core ∷ Midi ∷ Core ∷ []
  pub stray_union_owned : owners stray_union (0 ∷ 1 ∷ 2 ∷ 3 ∷ 4 ∷ []) ≡ Core ∷ Core ∷ Cdc ∷ Core ∷ Core ∷ []
  pub data_first_lead : leading data_first ≡ None ∷ Some 1 ∷ None ∷ None ∷ None ∷ []
  pub serial_and_storage_lead : leading serial_and_storage ≡ None ∷ Some 0 ∷ None ∷ Some 2 ∷ None ∷ []
  pub two_serials_lead : leading two_serials ≡ None ∷ Some 1 ∷ None ∷ None ∷ None ∷ []
  pub hid_and_midi_lead : leading hid_and_midi ≡ None ∷ None ∷ Some 2 ∷ None ∷ Some 1 ∷ []
  pub doubles_lead : leading doubles ≡ None ∷ None ∷ Some 0 ∷ Some 4 ∷ Some 6 ∷ []
  pub serial_alone : map (owner_by is_serial_port (rest serial_and_storage)) (0 ∷ 1 ∷ 2 ∷ []) ≡ Cdc ∷ Cdc ∷ Core ∷ []

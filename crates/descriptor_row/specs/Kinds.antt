-- What a descriptor is, and which stand together: USB 2.0, 9.5 and 9.6; the class documents for the codes.
use Rattle.std.specs.Prelude.{ℕ, ◌+◌, ◌%◌, List, [], ◌∷◌, Bool, not, ◌==◌, ◌&&◌, nat_le, drop, take, Option, Some, None, if◌then◌else◌, position}
use Rattle.descriptor_row.specs.declared.descriptor.Descriptor.{Descriptor}
use Rattle.descriptor_row.specs.Row.{byte, kind}

-- INTERFACE (9.6.5), ENDPOINT (9.6.6) and INTERFACE_ASSOCIATION (the notice of that name)
abbrev pub is_interface : Descriptor → Bool
is_interface d = kind d == 4

abbrev pub is_endpoint : Descriptor → Bool
is_endpoint d = kind d == 5

abbrev pub is_association : Descriptor → Bool
is_association d = kind d == 11

-- bInterfaceNumber, bAlternateSetting, bNumEndpoints (9.6.5)
abbrev pub number : Descriptor → ℕ
number d = byte d 2

abbrev pub setting : Descriptor → ℕ
setting d = byte d 3

abbrev pub claimed : Descriptor → ℕ
claimed d = byte d 4

-- an interface of a class, of a subclass, of a protocol (9.6.5)
abbrev pub is_of_class : ℕ → Descriptor → Bool
is_of_class class d = is_interface d && byte d 5 == class

abbrev pub is_of_subclass : ℕ → ℕ → Descriptor → Bool
is_of_subclass class subclass d = is_of_class class d && byte d 6 == subclass

abbrev pub is_of_protocol : ℕ → ℕ → ℕ → Descriptor → Bool
is_of_protocol class subclass protocol d = is_of_subclass class subclass d && byte d 7 == protocol

-- bEndpointAddress: IN in bit 7, the number in bits 3 to 0 (9.6.6)
abbrev pub address : Descriptor → ℕ
address d = byte d 2

abbrev pub is_in : Descriptor → Bool
is_in d = nat_le 128 (address d)

abbrev pub endpoint_number : Descriptor → ℕ
endpoint_number d = address d % 16

-- bmAttributes: bits 1 to 0 are 2 for bulk, 3 for interrupt (9.6.6)
abbrev pub transfer : Descriptor → ℕ
transfer d = byte d 3 % 4

abbrev pub bulk : ℕ
bulk = 2

abbrev pub interrupt : ℕ
interrupt = 3

-- an endpoint of a transfer type that is IN, one that is OUT
abbrev pub is_in_of : ℕ → Descriptor → Bool
is_in_of type d = is_endpoint d && (is_in d && transfer d == type)

abbrev pub is_out_of : ℕ → Descriptor → Bool
is_out_of type d = is_endpoint d && (not (is_in d) && transfer d == type)

-- the descriptors up to the next interface
abbrev pub up_to : Option ℕ → List Descriptor → List Descriptor
up_to None ds = ds
up_to (Some place) ds = take place ds

abbrev pub following : List Descriptor → List Descriptor
following ds = up_to (position is_interface ds) ds

-- what follows the descriptor at a place, up to the next interface; nothing where there is no place
abbrev pub following_place : Option ℕ → List Descriptor → List Descriptor
following_place None row = []
following_place (Some place) row = following (drop (place + 1) row)

-- the alternate setting that a descriptor belongs to: that of the last interface up to it, as the row
-- before it belongs to `before`
abbrev pub setting_at : ℕ → Descriptor → ℕ
setting_at before d = if is_interface d then setting d else before

-- what is left of a row once every alternate setting but 0 is passed over with all that belongs to it
abbrev pub left_after : ℕ → List Descriptor → List Descriptor
left_after before [] = []
left_after before (d ∷ ds) = if setting_at before d == 0 then d ∷ left_after (setting_at before d) ds else left_after (setting_at before d) ds

abbrev pub left_of : List Descriptor → List Descriptor
left_of row = left_after 0 row

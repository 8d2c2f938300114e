-- Sense data (SPC-2 7.20), as key, additional sense code and qualifier.
use Rattle.std.specs.Prelude.{ℕ, Bool, ◌==◌, ◌&&◌, List, [], ◌∷◌}
use Rattle.scsi_core.specs.declared.Sense.{Sense}

-- a sense of this key and additional code, with the qualifier 0
abbrev pub sense_of : ℕ → ℕ → Sense
sense_of key asc = record { key = key; asc = asc; ascq = 0 }

abbrev pub no_sense : Sense
no_sense = sense_of 0 0

-- NOT READY TO READY CHANGE, MEDIUM MAY HAVE CHANGED
abbrev pub medium_may_have_changed : Sense
medium_may_have_changed = sense_of 6 0x28

-- MEDIUM NOT PRESENT
abbrev pub medium_not_present : Sense
medium_not_present = sense_of 2 0x3a

-- LOGICAL BLOCK ADDRESS OUT OF RANGE
abbrev pub address_out_of_range : Sense
address_out_of_range = sense_of 5 0x21

-- WRITE PROTECTED
abbrev pub write_protected : Sense
write_protected = sense_of 7 0x27

-- INVALID COMMAND OPERATION CODE
abbrev pub invalid_command : Sense
invalid_command = sense_of 5 0x20

-- INVALID FIELD IN CDB
abbrev pub invalid_field : Sense
invalid_field = sense_of 5 0x24

-- MEDIUM REMOVAL PREVENTED
abbrev pub removal_prevented : Sense
removal_prevented = record { key = 5; asc = 0x53; ascq = 2 }

-- nothing is to be told
abbrev pub is_no_sense : Sense → Bool
is_no_sense sense = (sense.key == 0) && (sense.asc == 0) && (sense.ascq == 0)

-- fixed format: response code 70 for a current error, the key in byte 2, ten more bytes behind byte 7,
-- the additional code in byte 12 and its qualifier in byte 13
abbrev pub fixed_format : Sense → List ℕ
fixed_format sense =
    0x70 ∷ 0 ∷ sense.key ∷ 0 ∷ 0 ∷ 0 ∷ 0 ∷ 10
    ∷ 0 ∷ 0 ∷ 0 ∷ 0 ∷ sense.asc ∷ sense.ascq ∷ 0 ∷ 0 ∷ 0 ∷ 0 ∷ []

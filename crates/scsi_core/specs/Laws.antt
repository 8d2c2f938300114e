-- What holds of every command, whatever its code.
use Rattle.std.specs.Prelude.{◌≡◌, ◌≢◌, ℕ, ◌+◌, ◌/◌, ◌<◌, ◌≤◌, ◌==◌, if◌then◌else◌, ⊤, true, false, IsTrue, List, [], ◌∷◌, length, ◌⊎◌}
use Rattle.std.specs.List.{list_any}
use Rattle.scsi_core.specs.declared.Sense.{Sense}
use Rattle.scsi_core.specs.declared.Unit.{Unit as Disk}
use Rattle.scsi_core.specs.declared.Move.{Move}
use Rattle.scsi_core.specs.declared.Move.TheVariants.{None as Nothing, In, Read, Write, Sync, Fail}
use Rattle.scsi_core.specs.Sense.{no_sense, medium_may_have_changed, medium_not_present, address_out_of_range, write_protected, invalid_command, invalid_field, removal_prevented, fixed_format}
use Rattle.scsi_core.specs.Command.{byte, bit_0, bit_1, number, data_in}

-- what is to be moved is there to be moved: data has a byte at least, and blocks to be read or written are
-- one at least, lie on a medium that is present, and if written then one that is not protected
abbrev pub IsMovable : Disk → Move → Type 0
IsMovable unit Nothing = ⊤
IsMovable unit (In bytes) = 0 < length bytes.items
IsMovable unit (Read lba count) = IsTrue unit.present × (0 < count) × (lba + count ≤ unit.blocks)
IsMovable unit (Write lba count) = IsTrue unit.present × (unit.protected ≡ false) × (0 < count) × (lba + count ≤ unit.blocks)
IsMovable unit Sync = IsTrue unit.present
IsMovable unit (Fail sense) = ⊤

-- the sense that a command leaves: its own if it fails, and else none
abbrev pub sense_left : Move → Sense
sense_left (Fail sense) = sense
sense_left Nothing = no_sense
sense_left (In bytes) = no_sense
sense_left (Read lba count) = no_sense
sense_left (Write lba count) = no_sense
sense_left Sync = no_sense

-- a command that fails leaves the medium where it is, and removal as allowed as it was
abbrev pub FailureKeeps : Disk → Disk → Move → Type 0
FailureKeeps old new (Fail sense) = (new.present ≡ old.present) × (new.prevented ≡ old.prevented)
FailureKeeps old new Nothing = ⊤
FailureKeeps old new (In bytes) = ⊤
FailureKeeps old new (Read lba count) = ⊤
FailureKeeps old new (Write lba count) = ⊤
FailureKeeps old new Sync = ⊤

-- the most bytes that the host has room for: byte 4 of a six-byte command, whose group is 0, and bytes 7 and 8 of a
-- ten-byte command (SPC-2 4.3.4.1 and 4.3.4.6); INQUIRY has bytes 3 and 4, and READ CAPACITY(10) no such field but 8 bytes
abbrev pub allocation_length : ℕ → List ℕ → ℕ
allocation_length code cdb =
    if code == 0x12 then number 3 2 cdb
    else if code == 0x25 then 8
    else if code / 32 == 0 then byte 4 cdb
    else number 7 2 cdb

-- data for the host has at most so many bytes
abbrev pub IsAllowed : ℕ → List ℕ → Move → Type 0
IsAllowed code cdb Nothing = ⊤
IsAllowed code cdb (In bytes) = length bytes.items ≤ allocation_length code cdb
IsAllowed code cdb (Read lba count) = ⊤
IsAllowed code cdb (Write lba count) = ⊤
IsAllowed code cdb Sync = ⊤
IsAllowed code cdb (Fail sense) = ⊤

-- what REQUEST SENSE tells: the sense that is pending, and then an attention stays to be told later; where none is
-- pending the attention, which then ends; and else that there is nothing (SPC-2 7.20)
pub record TellsSense (old new : Disk) (cdb : List ℕ) (moves : Move) : Type 0 where
  pub pending :
      old.sense ≢ no_sense →
      (moves ≡ data_in (fixed_format old.sense) (byte 4 cdb)) × (new.attention ≡ old.attention)
  pub changed :
      old.sense ≡ no_sense → old.attention ≡ true →
      (moves ≡ data_in (fixed_format medium_may_have_changed) (byte 4 cdb)) × (new.attention ≡ false)
  pub nothing :
      old.sense ≡ no_sense → old.attention ≡ false →
      (moves ≡ data_in (fixed_format no_sense) (byte 4 cdb)) × (new.attention ≡ false)

-- the operation codes that are served, but for REQUEST SENSE
abbrev pub served_codes : List ℕ
served_codes = 0x00 ∷ 0x12 ∷ 0x1a ∷ 0x1b ∷ 0x1e ∷ 0x23 ∷ 0x25 ∷ 0x28 ∷ 0x2a ∷ 0x2f ∷ 0x35 ∷ []

-- why a command with this code fails with a sense. A change of the medium is told first, and then its absence; then come the
-- range of blocks, the protection, and what is wrong with the command block itself
pub data Cause (code : ℕ) (unit : Disk) (cdb : List ℕ) : Sense → Type 0 where
  changed : unit.attention ≡ true → Cause code unit cdb medium_may_have_changed
  absent : unit.attention ≡ false → unit.present ≡ false → Cause code unit cdb medium_not_present
  past :
      (code ≡ 0x28) ⊎ ((code ≡ 0x2a) ⊎ (code ≡ 0x2f)) → unit.attention ≡ false → unit.present ≡ true →
      unit.blocks < number 2 4 cdb + number 7 2 cdb → Cause code unit cdb address_out_of_range
  protected :
      code ≡ 0x2a → unit.attention ≡ false → unit.present ≡ true → number 2 4 cdb + number 7 2 cdb ≤ unit.blocks →
      unit.protected ≡ true → Cause code unit cdb write_protected
  pages : code ≡ 0x12 → bit_0 1 cdb ≡ true → Cause code unit cdb invalid_field
  comparison :
      code ≡ 0x2f → unit.attention ≡ false → unit.present ≡ true → number 2 4 cdb + number 7 2 cdb ≤ unit.blocks →
      bit_1 1 cdb ≡ true → Cause code unit cdb invalid_field
  prevented : code ≡ 0x1b → unit.attention ≡ false → byte 4 cdb ≡ 2 → unit.prevented ≡ true → Cause code unit cdb removal_prevented
  unknown :
      list_any (λ c. c == code) served_codes ≡ false → unit.attention ≡ false → unit.present ≡ true →
      Cause code unit cdb invalid_command

-- a command that fails has a cause
abbrev pub HasCause : ℕ → Disk → List ℕ → Move → Type 0
HasCause code unit cdb (Fail sense) = Cause code unit cdb sense
HasCause code unit cdb Nothing = ⊤
HasCause code unit cdb (In bytes) = ⊤
HasCause code unit cdb (Read lba count) = ⊤
HasCause code unit cdb (Write lba count) = ⊤
HasCause code unit cdb Sync = ⊤

-- what every command but INQUIRY and REQUEST SENSE has to tell: a change of the medium and, but for those that move it, its
-- absence
pub record Refuses (code : ℕ) (unit : Disk) (moves : Move) : Type 0 where
  pub changed : code ≢ 0x12 → unit.attention ≡ true → moves ≡ Fail medium_may_have_changed
  pub absent :
      code ≢ 0x12 → code ≢ 0x1b → code ≢ 0x1e → unit.attention ≡ false → unit.present ≡ false →
      moves ≡ Fail medium_not_present

-- The commands of a disk behind USB mass storage, as a table: the operation code, how much is asked of
-- the unit before the command is worked, and what the command then does. Bytes of the command block are
-- named by their place, and numbers in it are big-endian.
use Rattle.std.specs.Prelude.{ℕ, ◌+◌, ◌-◌, ◌/◌, ◌%◌, ◌<◌, Bool, true, false, not, ◌==◌, ◌&&◌, IsTrue, nat_lt, if◌then◌else◌, List, [], ◌∷◌, ◌++◌, take, drop, slice_index, codes, Option, Some, None, unwrap_or}
use Rattle.byteorder.specs.Endian.{big_number, big_bytes}
use Rattle.scsi_core.specs.declared.Sense.{Sense}
use Rattle.scsi_core.specs.declared.Unit.{Unit as Disk}
use Rattle.scsi_core.specs.declared.Move.{Move}
use Rattle.scsi_core.specs.declared.Move.TheVariants.{None as Nothing, In, Read, Write, Sync, Fail}
use Rattle.scsi_core.specs.Sense.{no_sense, medium_may_have_changed, medium_not_present, address_out_of_range, write_protected, invalid_command, invalid_field, removal_prevented, is_no_sense, fixed_format}

-- what a command answers, and the unit that it leaves
pub record Outcome : Type 0 where
  pub moves : Move
  pub leaves : Disk

-- the command is done, and this is to be moved
abbrev pub done : Move → Disk → Outcome
done moves unit = record { moves = moves; leaves = unit }

-- the command fails, which sets the sense
abbrev pub failed : Sense → Disk → Outcome
failed sense unit = record { moves = Fail sense; leaves = record unit { sense = sense } }

-- the byte at a place of the command block, its bits 0 and 1, and the number in n bytes from there
abbrev pub byte : ℕ → List ℕ → ℕ
byte place cdb = slice_index cdb place

abbrev pub bit_0 : ℕ → List ℕ → Bool
bit_0 place cdb = byte place cdb % 2 == 1

abbrev pub bit_1 : ℕ → List ℕ → Bool
bit_1 place cdb = byte place cdb / 2 % 2 == 1

abbrev pub number : ℕ → ℕ → List ℕ → ℕ
number place n cdb = big_number n (drop place cdb)

-- data for the host, cut to the allocation length; no move where no byte is left
abbrev pub data_move : List ℕ → Move
data_move [] = Nothing
data_move (first ∷ rest) = In (record { items = first ∷ rest })

abbrev pub data_in : List ℕ → ℕ → Move
data_in bytes allocation = data_move (take allocation bytes)

-- the first outcome that there is
abbrev pub or_else : Option Outcome → Option Outcome → Option Outcome
or_else None second = second
or_else (Some outcome) second = Some outcome

-- blocks to be moved; no move where the count is 0
abbrev pub blocks_move : (ℕ → ℕ → Move) → ℕ → ℕ → Move
blocks_move move lba count = if count == 0 then Nothing else move lba count

-- What is asked before a command is worked: the outcome of a command that is refused, or nothing.
abbrev pub Question : Type 0
Question = Disk → List ℕ → Option Outcome

-- no question
abbrev pub free : Question
free unit cdb = None

-- is the host still to be told of a change of the medium? Telling it clears the attention.
abbrev pub told : Question
told unit cdb =
    if unit.attention then Some (failed medium_may_have_changed (record unit { attention = false })) else None

-- then: is the medium absent?
abbrev pub ready : Question
ready unit cdb = or_else (told unit cdb) (if unit.present then None else Some (failed medium_not_present unit))

-- then: do the blocks pass the end of the medium?
abbrev pub in_range : Question
in_range unit cdb =
    or_else (ready unit cdb)
    (if nat_lt unit.blocks (number 2 4 cdb + number 7 2 cdb) then Some (failed address_out_of_range unit) else None)

-- then: is the medium write-protected?
abbrev pub writable : Question
writable unit cdb = or_else (in_range unit cdb) (if unit.protected then Some (failed write_protected unit) else None)

-- what INQUIRY tells: a removable disk, SPC-2, 31 more bytes, vendor, product and revision
abbrev pub inquiry_data : List ℕ
inquiry_data =
    (0 ∷ 0x80 ∷ 2 ∷ 2 ∷ 31 ∷ 0 ∷ 0 ∷ 0 ∷ []) ++ codes "usbrun  " ++ codes "block file      " ++ codes "0001"

-- what START STOP UNIT does by its byte of flags: 2 ejects the medium, 3 inserts one where there is a disk
abbrev pub start_stop : Disk → ℕ → Outcome
start_stop unit flags =
    if flags == 2 then (if unit.prevented then failed removal_prevented unit else done Nothing (record unit { present = false }))
    else if flags == 3 then (if unit.blocks == 0 then done Nothing unit else done Nothing (record unit { present = true }))
    else done Nothing unit

-- a row of the table
pub record Row : Type 0 where
  pub code : ℕ
  pub asked : Question
  pub worked : Disk → List ℕ → Outcome

abbrev pub row : ℕ → Question → (Disk → List ℕ → Outcome) → Row
row code asked worked = record { code = code; asked = asked; worked = worked }

abbrev pub table : List Row
table =
    -- TEST UNIT READY
    row 0x00 ready (λ unit cdb. done Nothing unit)
    -- INQUIRY: vital product data is refused
    ∷ row 0x12 free (λ unit cdb.
    if bit_0 1 cdb then failed invalid_field unit
    else done (data_in inquiry_data (number 3 2 cdb)) unit)
    -- MODE SENSE(6): a header with no block descriptor and no page, which tells the protection
    ∷ row 0x1a ready (λ unit cdb.
    done (data_in (3 ∷ 0 ∷ (if unit.protected then 0x80 else 0) ∷ 0 ∷ []) (byte 4 cdb)) unit)
    -- START STOP UNIT
    ∷ row 0x1b told (λ unit cdb. start_stop unit (byte 4 cdb))
    -- PREVENT ALLOW MEDIUM REMOVAL
    ∷ row 0x1e told (λ unit cdb. done Nothing (record unit { prevented = bit_0 4 cdb }))
    -- READ FORMAT CAPACITIES: one descriptor, of a formatted medium
    ∷ row 0x23 ready (λ unit cdb.
    done (data_in ((0 ∷ 0 ∷ 0 ∷ 8 ∷ []) ++ big_bytes 4 unit.blocks ++ (2 ∷ 0 ∷ 2 ∷ 0 ∷ [])) (number 7 2 cdb)) unit)
    -- READ CAPACITY(10): the last block, and the size of a block
    ∷ row 0x25 ready (λ unit cdb. done (data_move (big_bytes 4 (unit.blocks - 1) ++ big_bytes 4 512)) unit)
    -- READ(10)
    ∷ row 0x28 in_range (λ unit cdb. done (blocks_move Read (number 2 4 cdb) (number 7 2 cdb)) unit)
    -- WRITE(10)
    ∷ row 0x2a writable (λ unit cdb. done (blocks_move Write (number 2 4 cdb) (number 7 2 cdb)) unit)
    -- VERIFY(10): a comparison of bytes is refused
    ∷ row 0x2f in_range (λ unit cdb. if bit_1 1 cdb then failed invalid_field unit else done Nothing unit)
    -- SYNCHRONIZE CACHE(10)
    ∷ row 0x35 ready (λ unit cdb. done Sync unit)
    ∷ []

-- any other code
abbrev pub unknown : Row
unknown = row 0 ready (λ unit cdb. failed invalid_command unit)

abbrev pub row_of : List Row → ℕ → Row
row_of [] code = unknown
row_of (first ∷ rest) code = if first.code == code then first else row_of rest code

-- REQUEST SENSE tells the sense that the command before it left, and where there is none a change of the
-- medium. Either is told once. It is never refused.
abbrev pub told_sense : Disk → Sense
told_sense unit = if is_no_sense unit.sense && unit.attention then medium_may_have_changed else unit.sense

abbrev pub request_sense : Disk → List ℕ → Outcome
request_sense unit cdb =
    done (data_in (fixed_format (told_sense unit)) (byte 4 cdb))
    (record unit { sense = no_sense; attention = not (is_no_sense unit.sense) && unit.attention })

-- a command of the table: the questions, then the work
abbrev pub by_row : Row → Disk → List ℕ → Outcome
by_row r unit cdb = unwrap_or (r.asked unit cdb) (r.worked unit cdb)

-- every command but REQUEST SENSE first forgets the sense
abbrev pub worked : Disk → List ℕ → Outcome
worked unit cdb =
    if byte 0 cdb == 0x03 then request_sense unit cdb
    else by_row (row_of table (byte 0 cdb)) (record unit { sense = no_sense }) cdb

-- the medium is there only where a disk was given
pub record IsSound (unit : Disk) : Type 0 where
  pub given : IsTrue unit.present → 0 < unit.blocks

-- What holds of all disks that tell their contents, and worked ones.
use Rattle.std.specs.Prelude.{◌≡◌, ◌≢◌, ℕ, ◌+◌, ◌*◌, ◌/◌, ◌<◌, ◌-◌, ◌^◌, true, false, List, [], ◌∷◌, ◌++◌, Option, Some, None, length, take, drop, replicate, map, codes}
use Rattle.usb_edge.specs.Disk.{Held, Shelf, block_at, with_block, is_failing, called, disk_in, read_block, written, disk_of, named, free, attached, attached_size}

-- Blocks.

-- a block that these bytes have has 512 of them
abbrev pub BlocksAreWhole : Type 0
BlocksAreWhole = (lba : ℕ) (bytes : List ℕ) → lba < length bytes / 512 → length (block_at lba bytes) ≡ 512

-- a block that was written is read back
abbrev pub WrittenIsRead : Type 0
WrittenIsRead = (lba : ℕ) (block bytes : List ℕ) → length block ≡ 512 → lba < length bytes / 512 → block_at lba (with_block lba block bytes) ≡ block

-- every other block stays
abbrev pub OthersStay : Type 0
OthersStay = (other lba : ℕ) (block bytes : List ℕ) → length block ≡ 512 → lba < length bytes / 512 → other ≢ lba → block_at other (with_block lba block bytes) ≡ block_at other bytes

-- and so do the bytes in front, those behind, and their number
pub record BytesStay (lba : ℕ) (block bytes : List ℕ) : Type 0 where
  pub front : take (512 * lba) (with_block lba block bytes) ≡ take (512 * lba) bytes
  pub behind : drop (512 * lba + 512) (with_block lba block bytes) ≡ drop (512 * lba + 512) bytes
  pub count : length (with_block lba block bytes) ≡ length bytes

abbrev pub AllElseStays : Type 0
AllElseStays = (lba : ℕ) (block bytes : List ℕ) → length block ≡ 512 → lba < length bytes / 512 → BytesStay lba block bytes

-- Slots.

-- a write to the disk of a slot is read there, and changes the disk of no other slot
pub record WritesOneSlot (slot lba : ℕ) (block bytes : List ℕ) (shelf : Shelf) : Type 0 where
  pub leaves : disk_in slot (written slot lba block shelf) ≡ Some (with_block lba block bytes)
  pub reads : read_block slot lba (written slot lba block shelf) ≡ block
  pub others : (other : ℕ) → other ≢ slot → disk_in other (written slot lba block shelf) ≡ disk_in other shelf

abbrev pub WritesAreOfASlot : Type 0
WritesAreOfASlot =
    (slot lba : ℕ) (block bytes : List ℕ) (shelf : Shelf) → disk_in slot shelf ≡ Some bytes → length block ≡ 512 → lba < length bytes / 512
    → WritesOneSlot slot lba block bytes shelf

-- a slot that takes the disk of a name has that one, which is then no other one's to take; each name keeps its bytes, and no other
-- slot's disk changes
pub record TakesOneDisk (slot : ℕ) (name bytes : List ℕ) (shelf : Shelf) : Type 0 where
  pub has : disk_in slot (attached slot name shelf) ≡ Some bytes
  pub taken : free name (attached slot name shelf) ≡ None
  pub keeps : (each : List ℕ) → named each (attached slot name shelf) ≡ named each shelf
  pub others : (other : ℕ) → other ≢ slot → disk_in other (attached slot name shelf) ≡ disk_in other shelf

abbrev pub AttachesOneDisk : Type 0
AttachesOneDisk = (slot : ℕ) (name bytes : List ℕ) (shelf : Shelf) → free name shelf ≡ Some bytes → TakesOneDisk slot name bytes shelf

-- the disk that the slot had before is then no slot's, with its bytes as they stand
abbrev pub LeavesTheOldDisk : Type 0
LeavesTheOldDisk =
    (slot : ℕ) (name old : List ℕ) (shelf : Shelf) (held : Held) → disk_of old shelf.disks ≡ Some held → held.slot ≡ Some slot → old ≢ name
    → free old (attached slot name shelf) ≡ Some held.bytes

-- Worked disks.

abbrev pub full : ℕ → List ℕ
full byte = replicate 512 byte

-- two disks, of which one has two blocks and slot 0, and the other has one and no slot
abbrev pub two : Shelf
two = record {
  disks =
      record { name = codes "a"; bytes = full 1 ++ full 2; slot = Some 0 }
      ∷ record { name = codes "b"; bytes = full 3; slot = None }
      ∷ [];
  calls = 4;
  fails = 7 ∷ 5 ∷ [];
}

-- the same disks with other blocks, and in other slots
abbrev pub they : List ℕ → Option ℕ → List ℕ → Option ℕ → Shelf
they a at_a b at_b = record {
  disks = record { name = codes "a"; bytes = a; slot = at_a } ∷ record { name = codes "b"; bytes = b; slot = at_b } ∷ [];
  calls = 4;
  fails = 7 ∷ 5 ∷ [];
}

pub record WorkedBlocks : Type 0 where
  pub first : read_block 0 0 two ≡ full 1
  pub second : read_block 0 1 two ≡ full 2
  pub write_first : written 0 0 (full 9) two ≡ they (full 9 ++ full 2) (Some 0) (full 3) None
  pub write_second : written 0 1 (full 9) two ≡ they (full 1 ++ full 9) (Some 0) (full 3) None

pub record WorkedSlots : Type 0 where
  pub zero : disk_in 0 two ≡ Some (full 1 ++ full 2)
  pub one : disk_in 1 two ≡ None
  pub in_its_place : attached 0 (codes "b") two ≡ they (full 1 ++ full 2) None (full 3) (Some 0)
  pub beside : attached 1 (codes "b") two ≡ they (full 1 ++ full 2) (Some 0) (full 3) (Some 1)
  pub known : free (codes "b") two ≡ Some (full 3)
  pub taken : free (codes "a") two ≡ None
  pub unknown : free (codes "c") two ≡ None

-- which calls fail, the first of which is number 1; from the last number on that one is counted again
abbrev pub calls_of : ℕ → List ℕ → Shelf
calls_of calls fails = record { disks = []; calls = calls; fails = fails }

pub record WorkedCalls : Type 0 where
  pub first : is_failing (calls_of 0 (1 ∷ [])) ≡ true
  pub not_zero : is_failing (calls_of 0 (0 ∷ 2 ∷ [])) ≡ false
  pub any_order : is_failing two ≡ true
  pub then_not : is_failing (called two) ≡ false
  pub then_again : is_failing (called (called two)) ≡ true
  pub counts : called (calls_of 0 (1 ∷ [])) ≡ calls_of 1 (1 ∷ [])
  pub last : called (calls_of (2 ^ 64 - 1) []) ≡ calls_of (2 ^ 64 - 1) []
  pub last_fails : is_failing (calls_of (2 ^ 64 - 1) ((2 ^ 64 - 1) ∷ [])) ≡ true
  pub attach_fails : attached_size (codes "b") two ≡ None
  pub attach : attached_size (codes "b") (called two) ≡ Some 512
  pub attach_taken : attached_size (codes "a") (called two) ≡ None

-- What the sources, sinks and disks in memory hold.
use Rattle.std.specs.Prelude.{◌≡◌, ℕ, suc, ◌<◌, List, [], ◌∷◌, Option, Some, None, if◌then◌else◌, option_map, get_or, string_bytes, length, bytes_eq, true, false}
use Rattle.usb_edge.specs.Disk.{Held, Shelf, is_slot, disk_of, free_bytes}
use Rattle.usb_edge.specs.declared.slots.MemDisk.{MemDisk}

-- the bytes left, the most that one call gives, the calls made, the numbers of the calls that fail, the faults
pub record Tape : Type 0 where
  pub left : List ℕ
  pub piece : ℕ
  pub calls : ℕ
  pub fails : List ℕ
  pub faults : ℕ

-- the bytes taken, the most that are taken, the calls made, the numbers of the calls that fail, the faults
pub record Page : Type 0 where
  pub taken : List ℕ
  pub room : ℕ
  pub calls : ℕ
  pub fails : List ℕ
  pub faults : ℕ

-- disks that tell their contents, and the faults
pub record Rack : Type 0 where
  pub shelf : Shelf
  pub faults : ℕ

-- disks in memory, of which each is a slot's by its index
abbrev pub held_by : (ℕ → Option ℕ) → List MemDisk → List Held
held_by slot_at [] = []
held_by slot_at (disk ∷ more) =
    record { name = string_bytes disk.name; bytes = disk.bytes.items; slot = slot_at 0 } ∷ held_by (λ i. slot_at (suc i)) more

-- the slot that has the disk of an index, where the slots have disks of these indices
abbrev pub slot_of : List (Option ℕ) → ℕ → Option ℕ
slot_of [] i = None
slot_of (slot ∷ more) i = if is_slot i slot then Some 0 else option_map suc (slot_of more i)

-- disks in memory as they are told, where the slots have disks of these indices
abbrev pub shelved : List (Option ℕ) → List MemDisk → List Held
shelved slots disks = held_by (slot_of slots) disks

-- disks that no slot has
abbrev pub unattached : List MemDisk → List Held
unattached disks = held_by (λ _. None) disks

-- each slot that has a disk has one that is there, which no other slot has
pub record AreInPlace (slots : List (Option ℕ)) (count : ℕ) : Type 0 where
  pub within : (s i : ℕ) → get_or slots s None ≡ Some i → i < count
  pub apart : (s t i : ℕ) → get_or slots s None ≡ Some i → get_or slots t None ≡ Some i → s ≡ t

-- the disk of an index is the first one of a name
pub record IsFirst (name : List ℕ) (disks : List MemDisk) (i : ℕ) : Type 0 where
  pub within : i < length disks
  pub named : (d : MemDisk) → bytes_eq (string_bytes (get_or disks i d).name) name ≡ true
  pub before : (k : ℕ) (d : MemDisk) → k < i → bytes_eq (string_bytes (get_or disks k d).name) name ≡ false

-- and no slot has it
pub record FreeIndex (name : List ℕ) (slots : List (Option ℕ)) (disks : List MemDisk) (i : ℕ) : Type 0 where
  pub first : IsFirst name disks i
  pub unattached : slot_of slots i ≡ None

-- the index of the first disk of a name, where no slot has it
abbrev pub IsFreeIndex : List ℕ → List (Option ℕ) → List MemDisk → Option ℕ → Type 0
IsFreeIndex name slots disks None = free_bytes (disk_of name (shelved slots disks)) ≡ None
IsFreeIndex name slots disks (Some i) = FreeIndex name slots disks i

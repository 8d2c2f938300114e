-- What is known of disks: the disks that tell their contents, and what each call makes of them.
use Rattle.std.specs.Prelude.{ℕ, ◌+◌, ◌*◌, ◌/◌, ◌<◌, ◌==◌, Bool, false, List, [], ◌∷◌, ◌++◌, Option, Some, None, Result, Ok, Err, if◌then◌else◌, length, take, drop, bytes_eq, is_none, option_map, unwrap_or}
use Rattle.std.specs.List.{list_any}
use Rattle.usb_edge.specs.Stream.{counted}

-- a disk that is held: its name, its bytes, and the slot that has it, where one has
pub record Held : Type 0 where
  pub name : List ℕ
  pub bytes : List ℕ
  pub slot : Option ℕ

-- what disks that tell their contents have: the disks, how often a call was made, and the numbers of the calls that fail
pub record Shelf : Type 0 where
  pub disks : List Held
  pub calls : ℕ
  pub fails : List ℕ

-- the bytes of one block
abbrev pub block_size : ℕ
block_size = 512

-- the block at a number, the first being 0
abbrev pub block_at : ℕ → List ℕ → List ℕ
block_at lba bytes = take 512 (drop (512 * lba) bytes)

-- the bytes with this block in the place of that number
abbrev pub with_block : ℕ → List ℕ → List ℕ → List ℕ
with_block lba block bytes = take (512 * lba) bytes ++ block ++ drop (512 * lba + 512) bytes

-- a disk of so many bytes, where there is one, has a block of this number
abbrev pub HasBlock : Option ℕ → ℕ → Type 0
HasBlock (Some size) lba = lba < size / 512
HasBlock None lba = ⊥

-- the number of the next call is one of those that fail
abbrev pub is_failing : Shelf → Bool
is_failing shelf = list_any (λ n. n == counted shelf.calls) shelf.fails

-- one call more
abbrev pub called : Shelf → Shelf
called shelf = record { disks = shelf.disks; calls = counted shelf.calls; fails = shelf.fails }

-- it is this slot that has a disk
abbrev pub is_slot : ℕ → Option ℕ → Bool
is_slot slot (Some n) = n == slot
is_slot slot None = false

-- the bytes of the first of these disks that a slot has
abbrev pub bytes_in : ℕ → List Held → Option (List ℕ)
bytes_in slot [] = None
bytes_in slot (held ∷ more) = if is_slot slot held.slot then Some held.bytes else bytes_in slot more

-- the bytes of the disk that a slot has
abbrev pub disk_in : ℕ → Shelf → Option (List ℕ)
disk_in slot shelf = bytes_in slot shelf.disks

-- the block of this number of the disk that a slot has
abbrev pub read_block : ℕ → ℕ → Shelf → List ℕ
read_block slot lba shelf = block_at lba (unwrap_or (disk_in slot shelf) [])

-- the disks with a block in its place on the first one that a slot has
abbrev pub with_written : ℕ → ℕ → List ℕ → List Held → List Held
with_written slot lba block [] = []
with_written slot lba block (held ∷ more) =
    if is_slot slot held.slot
    then record { name = held.name; bytes = with_block lba block held.bytes; slot = held.slot } ∷ more
    else held ∷ with_written slot lba block more

-- the shelf with a block in its place on the disk that a slot has
abbrev pub written : ℕ → ℕ → List ℕ → Shelf → Shelf
written slot lba block shelf = record { disks = with_written slot lba block shelf.disks; calls = shelf.calls; fails = shelf.fails }

-- the first of these disks with a name
abbrev pub disk_of : List ℕ → List Held → Option Held
disk_of name [] = None
disk_of name (held ∷ more) = if bytes_eq held.name name then Some held else disk_of name more

-- the bytes of the disk of a name
abbrev pub named : List ℕ → Shelf → Option (List ℕ)
named name shelf = option_map (λ held. held.bytes) (disk_of name shelf.disks)

-- the bytes of a disk that no slot has
abbrev pub free_bytes : Option Held → Option (List ℕ)
free_bytes None = None
free_bytes (Some held) = if is_none held.slot then Some held.bytes else None

-- the bytes of the disk of a name, where there is one that no slot has
abbrev pub free : List ℕ → Shelf → Option (List ℕ)
free name shelf = free_bytes (disk_of name shelf.disks)

-- the size that an `attach` of a name gives in memory: it fails at a listed call, at an unknown name and at one that a slot has
abbrev pub attached_size : List ℕ → Shelf → Option ℕ
attached_size name shelf = if is_failing shelf then None else option_map length (free name shelf)

-- what a disk is to a slot that takes another one: no slot's, where it was this slot's
abbrev pub slot_left : ℕ → Option ℕ → Option ℕ
slot_left slot at = if is_slot slot at then None else at

-- these disks, of which a slot has none
abbrev pub left : ℕ → List Held → List Held
left slot [] = []
left slot (held ∷ more) = record { name = held.name; bytes = held.bytes; slot = slot_left slot held.slot } ∷ left slot more

-- these disks, of which the first with a name is a slot's
abbrev pub given : ℕ → List ℕ → List Held → List Held
given slot name [] = []
given slot name (held ∷ more) =
    if bytes_eq held.name name
    then record { name = held.name; bytes = held.bytes; slot = Some slot } ∷ more
    else held ∷ given slot name more

-- the shelf where a slot has the disk of a name, and no other one
abbrev pub attached : ℕ → List ℕ → Shelf → Shelf
attached slot name shelf = record { disks = given slot name (left slot shelf.disks); calls = shelf.calls; fails = shelf.fails }

-- the shelf behind an `attach` and behind a `write`, by what that answered
abbrev pub after_attach : {E : Type 0} → Result ℕ E → ℕ → List ℕ → Shelf → Shelf
after_attach (Ok size) slot name shelf = attached slot name (called shelf)
after_attach (Err fault) slot name shelf = called shelf

abbrev pub after_write : {E : Type 0} → Result Unit E → ℕ → ℕ → List ℕ → Shelf → Shelf
after_write (Ok _) slot lba block shelf = written slot lba block (called shelf)
after_write (Err fault) slot lba block shelf = called shelf

-- a count of faults behind a call: one more exactly where it failed
abbrev pub faults_after : {T E : Type 0} → Result T E → ℕ → ℕ
faults_after (Ok _) faults = faults
faults_after (Err fault) faults = counted faults

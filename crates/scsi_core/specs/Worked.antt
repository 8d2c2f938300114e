-- Commands whose answers are worked out by hand from SPC-2, SBC-2 and the choices in `Command.antt`.
use Rattle.std.specs.Prelude.{◌≡◌, ℕ, true, false, List, [], ◌∷◌, ◌++◌, take, codes}
use Rattle.scsi_core.specs.declared.Sense.{Sense}
use Rattle.scsi_core.specs.declared.Unit.{Unit as Disk}
use Rattle.scsi_core.specs.declared.Move.{Move}
use Rattle.scsi_core.specs.declared.Move.TheVariants.{None as Nothing, In, Read, Write, Sync, Fail}
use Rattle.scsi_core.specs.Command.{worked}

-- a command block of 16 bytes that begins with these, of which there are ten at most
abbrev pub block : List ℕ → List ℕ
block bytes = take 16 (bytes ++ 0 ∷ 0 ∷ 0 ∷ 0 ∷ 0 ∷ 0 ∷ 0 ∷ 0 ∷ 0 ∷ 0 ∷ 0 ∷ 0 ∷ 0 ∷ 0 ∷ 0 ∷ 0 ∷ [])

abbrev pub sense : ℕ → ℕ → ℕ → Sense
sense key asc ascq = record { key = key; asc = asc; ascq = ascq }

-- a disk of two blocks that is ready
abbrev pub ready_disk : Disk
ready_disk = record { blocks = 2; present = true; protected = false; prevented = false; attention = false; sense = sense 0 0 0 }

abbrev pub protected_disk : Disk
protected_disk = record ready_disk { protected = true }

-- the same disk, taken out while the host doesn't know of it yet
abbrev pub changed_disk : Disk
changed_disk = record ready_disk { present = false; attention = true }

-- the same disk, once the host was told
abbrev pub absent_disk : Disk
absent_disk = record changed_disk { attention = false }

-- the command block that begins with these bytes is answered so, and leaves this
abbrev pub Answers : Disk → List ℕ → Move → Disk → Type 0
Answers old bytes moves new = worked old (block bytes) ≡ record { moves = moves; leaves = new }

-- it is answered so, and the unit stays as it is
abbrev pub Gives : Disk → List ℕ → List ℕ → Type 0
Gives unit bytes told = Answers unit bytes (In (record { items = told })) unit

-- it fails, which sets the sense and leaves all else
abbrev pub Fails : Disk → List ℕ → Sense → Type 0
Fails unit bytes s = Answers unit bytes (Fail s) (record unit { sense = s })

-- data for the host, whole and cut
pub record DataIsTold : Type 0 where
  pub inquiry :
      Gives ready_disk (0x12 ∷ 0 ∷ 0 ∷ 0 ∷ 36 ∷ [])
      ((0 ∷ 0x80 ∷ 2 ∷ 2 ∷ 31 ∷ 0 ∷ 0 ∷ 0 ∷ []) ++ codes "usbrun  block file      0001")
  pub inquiry_cut : Gives changed_disk (0x12 ∷ 0 ∷ 0 ∷ 0 ∷ 5 ∷ []) (0 ∷ 0x80 ∷ 2 ∷ 2 ∷ 31 ∷ [])
  pub inquiry_room : Gives ready_disk (0x12 ∷ 0 ∷ 0 ∷ 1 ∷ 0 ∷ []) ((0 ∷ 0x80 ∷ 2 ∷ 2 ∷ 31 ∷ 0 ∷ 0 ∷ 0 ∷ []) ++ codes "usbrun  block file      0001")
  pub mode : Gives protected_disk (0x1a ∷ 0 ∷ 0x3f ∷ 0 ∷ 192 ∷ []) (3 ∷ 0 ∷ 0x80 ∷ 0 ∷ [])
  pub formats : Gives ready_disk (0x23 ∷ 0 ∷ 0 ∷ 0 ∷ 0 ∷ 0 ∷ 0 ∷ 0 ∷ 252 ∷ []) (0 ∷ 0 ∷ 0 ∷ 8 ∷ 0 ∷ 0 ∷ 0 ∷ 2 ∷ 2 ∷ 0 ∷ 2 ∷ 0 ∷ [])
  pub capacity : Gives ready_disk (0x25 ∷ []) (0 ∷ 0 ∷ 0 ∷ 1 ∷ 0 ∷ 0 ∷ 2 ∷ 0 ∷ [])

-- blocks: the last one, one past it, an address at the end of 32 bits, and none at all
pub record BlocksAreMoved : Type 0 where
  pub read : Answers ready_disk (0x28 ∷ 0 ∷ 0 ∷ 0 ∷ 0 ∷ 1 ∷ 0 ∷ 0 ∷ 1 ∷ []) (Read 1 1) ready_disk
  pub write : Answers ready_disk (0x2a ∷ 0 ∷ 0 ∷ 0 ∷ 0 ∷ 0 ∷ 0 ∷ 0 ∷ 2 ∷ []) (Write 0 2) ready_disk
  pub none : Answers ready_disk (0x28 ∷ 0 ∷ 0 ∷ 0 ∷ 0 ∷ 2 ∷ 0 ∷ 0 ∷ 0 ∷ []) Nothing ready_disk
  pub past : Fails ready_disk (0x28 ∷ 0 ∷ 0 ∷ 0 ∷ 0 ∷ 1 ∷ 0 ∷ 0 ∷ 2 ∷ []) (sense 5 0x21 0)
  pub far : Fails ready_disk (0x2f ∷ 0 ∷ 0xff ∷ 0xff ∷ 0xff ∷ 0xff ∷ 0 ∷ 0 ∷ 1 ∷ []) (sense 5 0x21 0)
  pub sync : Answers ready_disk (0x35 ∷ []) Sync ready_disk

-- which failure comes first: the change of the medium, its absence, the range, the protection
pub record RefusalsInOrder : Type 0 where
  pub attention : Answers changed_disk (0x00 ∷ []) (Fail (sense 6 0x28 0)) (record absent_disk { sense = sense 6 0x28 0 })
  pub unknown_attention : Answers changed_disk (0xee ∷ []) (Fail (sense 6 0x28 0)) (record absent_disk { sense = sense 6 0x28 0 })
  pub absence : Fails absent_disk (0x28 ∷ 0 ∷ 0 ∷ 0 ∷ 0 ∷ 9 ∷ 0 ∷ 0 ∷ 9 ∷ []) (sense 2 0x3a 0)
  pub unknown_absence : Fails absent_disk (0xee ∷ []) (sense 2 0x3a 0)
  pub range : Fails protected_disk (0x2a ∷ 0 ∷ 0 ∷ 0 ∷ 0 ∷ 2 ∷ 0 ∷ 0 ∷ 1 ∷ []) (sense 5 0x21 0)
  pub protection : Fails protected_disk (0x2a ∷ 0 ∷ 0 ∷ 0 ∷ 0 ∷ 1 ∷ 0 ∷ 0 ∷ 1 ∷ []) (sense 7 0x27 0)
  pub unknown : Fails ready_disk (0xee ∷ []) (sense 5 0x20 0)
  pub pages : Fails ready_disk (0x12 ∷ 1 ∷ 0 ∷ 0 ∷ 36 ∷ []) (sense 5 0x24 0)
  pub comparison : Fails ready_disk (0x2f ∷ 2 ∷ []) (sense 5 0x24 0)

-- the medium: a removal that is prevented, one that isn't, an insertion, and one where no disk is
pub record MediumMoves : Type 0 where
  pub prevent : Answers ready_disk (0x1e ∷ 0 ∷ 0 ∷ 0 ∷ 1 ∷ []) Nothing (record ready_disk { prevented = true })
  pub allow : Answers (record ready_disk { prevented = true }) (0x1e ∷ 0 ∷ 0 ∷ 0 ∷ 0 ∷ []) Nothing ready_disk
  pub kept : Fails (record ready_disk { prevented = true }) (0x1b ∷ 0 ∷ 0 ∷ 0 ∷ 2 ∷ []) (sense 5 0x53 2)
  pub eject : Answers ready_disk (0x1b ∷ 0 ∷ 0 ∷ 0 ∷ 2 ∷ []) Nothing absent_disk
  pub insert : Answers absent_disk (0x1b ∷ 0 ∷ 0 ∷ 0 ∷ 3 ∷ []) Nothing ready_disk
  pub empty : Answers (record absent_disk { blocks = 0 }) (0x1b ∷ 0 ∷ 0 ∷ 0 ∷ 3 ∷ []) Nothing (record absent_disk { blocks = 0 })
  pub stop : Answers ready_disk (0x1b ∷ []) Nothing ready_disk

-- the sense: the one that is pending comes before the attention, which stays
pub record SenseInOrder : Type 0 where
  pub pending :
      Answers (record changed_disk { sense = sense 5 0x21 0 }) (0x03 ∷ 0 ∷ 0 ∷ 0 ∷ 18 ∷ [])
      (In (record { items = 0x70 ∷ 0 ∷ 5 ∷ 0 ∷ 0 ∷ 0 ∷ 0 ∷ 10 ∷ 0 ∷ 0 ∷ 0 ∷ 0 ∷ 0x21 ∷ 0 ∷ 0 ∷ 0 ∷ 0 ∷ 0 ∷ [] })) changed_disk
  pub attention :
      Answers changed_disk (0x03 ∷ 0 ∷ 0 ∷ 0 ∷ 252 ∷ [])
      (In (record { items = 0x70 ∷ 0 ∷ 6 ∷ 0 ∷ 0 ∷ 0 ∷ 0 ∷ 10 ∷ 0 ∷ 0 ∷ 0 ∷ 0 ∷ 0x28 ∷ 0 ∷ 0 ∷ 0 ∷ 0 ∷ 0 ∷ [] })) absent_disk
  pub none : Gives absent_disk (0x03 ∷ 0 ∷ 0 ∷ 0 ∷ 4 ∷ []) (0x70 ∷ 0 ∷ 0 ∷ 0 ∷ [])

pub record WorkedCommands : Type 0 where
  pub told_data : DataIsTold
  pub blocks : BlocksAreMoved
  pub refusals : RefusalsInOrder
  pub medium : MediumMoves
  pub told_sense : SenseInOrder

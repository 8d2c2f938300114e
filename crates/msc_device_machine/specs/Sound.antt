-- What always holds of a mass storage device: what it still has to move lies on its disk, and is no more than the host expects.
use Rattle.std.specs.Prelude.{◌≡◌, ⊤, ℕ, ◌+◌, ◌*◌, ◌<◌, ◌≤◌, List, [], length, Option, Some, None}
use Rattle.usb_edge.specs.Disk.{block_size}
use Rattle.scsi_core.specs.Command.{IsSound as IsSoundUnit}
use Rattle.msc_device_machine.specs.declared.transport.Flow.{Flow}
use Rattle.msc_device_machine.specs.declared.transport.Transport.{Transport}
use Rattle.msc_device_machine.specs.declared.transport.Transport.TheVariants.{Command, Broken, Sending, Receiving, Status}
use Rattle.msc_device_machine.specs.declared.transport.Due.{Due}
use Rattle.msc_device_machine.specs.declared.transport.Due.TheVariants as due
use Rattle.msc_device_machine.specs.Disk.{Call, Read, Write, Sync}
use Rattle.msc_device_machine.specs.Storage.{Storage}

-- Data for the host: what is queued is a byte at least and a block at most, and behind it come so many whole blocks, from the next one on.
-- Data of a command's own is queued whole, and no block comes behind it.
pub record IsSending (blocks : ℕ) (flow : Flow) (loaded : ℕ) : Type 0 where
  pub some : 0 < loaded
  pub most : loaded ≤ block_size
  pub size : flow.device ≤ flow.host
  pub left : ℕ
  pub whole : flow.moved + loaded + block_size * left ≡ flow.device
  pub lies : flow.next + left ≤ blocks

-- Data from the host: less than a block is gathered, the bytes in front of it are whole blocks, and so many are still to be written, from
-- the next one on, which is the one that is gathered.
pub record IsReceiving (blocks : ℕ) (flow : Flow) (block : List ℕ) : Type 0 where
  pub gathered : length block < block_size
  pub some : flow.moved < flow.device
  pub size : flow.device ≤ flow.host
  pub left : ℕ
  pub whole : flow.moved + block_size * left ≡ flow.device + length block
  pub lies : flow.next + left ≤ blocks

abbrev pub Fits : ℕ → Transport → List ℕ → Type 0
Fits blocks Command block = block ≡ []
Fits blocks Broken block = block ≡ []
Fits blocks (Sending flow loaded) block = IsSending blocks flow loaded × (block ≡ [])
Fits blocks (Receiving flow) block = IsReceiving blocks flow block
Fits blocks Status block = block ≡ []

pub record IsSound (s : Storage) : Type 0 where
  pub unit : IsSoundUnit s.unit
  pub fits : Fits s.unit.blocks s.transport s.block

-- Before the disk is asked: so many blocks are still to be read and sent, the next one among them;
pub record IsReading (blocks : ℕ) (flow : Flow) : Type 0 where
  pub size : flow.device ≤ flow.host
  pub left : ℕ
  pub some : 0 < left
  pub whole : flow.moved + block_size * left ≡ flow.device
  pub lies : flow.next + left ≤ blocks

-- a block came whole, with less than another one behind it, and so many are still to be written, this one among them.
pub record IsWriting (blocks : ℕ) (flow : Flow) (block : List ℕ) : Type 0 where
  pub whole_block : block_size ≤ length block
  pub most : length block < block_size + block_size
  pub moved : flow.moved ≤ flow.device
  pub size : flow.device ≤ flow.host
  pub left : ℕ
  pub whole : flow.moved + block_size * left ≡ flow.device + length block
  pub lies : flow.next + left ≤ blocks

abbrev pub IsDue : ℕ → Due → Storage → Type 0
IsDue blocks due.Nothing s = Fits blocks s.transport s.block
IsDue blocks (due.Read flow) s = IsReading blocks flow × (s.block ≡ [])
IsDue blocks (due.Write flow is_over) s = IsWriting blocks flow s.block
IsDue blocks (due.Sync tag host is_in) s = 0 < blocks

-- what the disk is asked lies on a disk of so many blocks
abbrev pub LiesOn : ℕ → Option Call → Type 0
LiesOn blocks None = ⊤
LiesOn blocks (Some (Read lba)) = lba < blocks
LiesOn blocks (Some (Write lba block)) = (lba < blocks) × (length block ≡ block_size)
LiesOn blocks (Some Sync) = 0 < blocks

-- an answer of a disk to what it was asked: a block that was read has 512 bytes
abbrev pub IsAnswer : Option Call → Option (List ℕ) → Type 0
IsAnswer (Some (Read lba)) (Some bytes) = length bytes ≡ block_size
IsAnswer (Some (Read lba)) None = ⊤
IsAnswer (Some (Write lba block)) answer = ⊤
IsAnswer (Some Sync) answer = ⊤
IsAnswer None answer = ⊤

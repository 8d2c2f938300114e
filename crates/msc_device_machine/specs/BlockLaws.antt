-- What a user of the disk has of its commands, over whole runs.
use Rattle.std.specs.Prelude.{◌≡◌, ◌⊎◌, ℕ, ◌+◌, ◌-◌, ◌*◌, ◌≤◌, List, [], Bool, true, false, ◌&&◌, length, take, drop, slice_index, if◌then◌else◌}
use Rattle.usb_edge.specs.Disk.{Held, Shelf, block_size}
use Rattle.usb_pipe.specs.Own.{Own}
use Rattle.scsi_core.specs.declared.Unit.{Unit as Disk}
use Rattle.scsi_core.specs.declared.Move.{Move}
use Rattle.scsi_core.specs.declared.Move.TheVariants as move
use Rattle.scsi_core.specs.Command as scsi
use Rattle.msc_device_machine.specs.Wrapper.{status_wrapper}
use Rattle.msc_device_machine.specs.Runs.{Turn, Run, after_turns, made}
use Rattle.msc_device_machine.specs.Story.{Story, here, with_here, overwritten, nothing_yet, story_of}

-- a run of a device that was just made, with what is kept of its last command. The disk in slot 0 has the device's blocks, and no one
-- else writes it; the ring for the host has room for a block
abbrev pub HasDisk : ℕ → Own → Shelf → Type 0
HasDisk blocks own shelf = (length (here shelf.disks) ≡ block_size * blocks) × (block_size ≤ own.sends.capacity)

abbrev pub run_of : ℕ → Own → Shelf → List Turn → Run
run_of blocks own shelf turns = after_turns (made blocks own shelf) turns

abbrev pub told : ℕ → Own → Shelf → List Turn → Story
told blocks own shelf turns = story_of (nothing_yet shelf.disks) (made blocks own shelf) turns

-- the status wrapper is queued, with this status
abbrev pub HasStatus : Story → ℕ → Type 0
HasStatus story status = (length story.status ≡ 13) × (slice_index story.status 12 ≡ status)

-- the disks as they were, with so many blocks of what came written from a block on
abbrev pub with_blocks : ℕ → ℕ → Story → List Held
with_blocks lba k story =
    with_here (overwritten (block_size * lba) (take (block_size * k) story.came) (here story.before)) story.before

abbrev pub is_write : Move → Bool
is_write (move.Write lba count) = true
is_write move.None = false
is_write (move.In bytes) = false
is_write (move.Read lba count) = false
is_write move.Sync = false
is_write (move.Fail sense) = false

-- WRITE(10) that is reported with status 0: its blocks stand on the disk whole, as they came. All other blocks are as they were, and so are
-- all other disks
abbrev pub WritesStand : Type 0
WritesStand =
    (blocks : ℕ) (own : Own) (shelf : Shelf) (turns : List Turn) (lba count : ℕ) → HasDisk blocks own shelf
    → let story = told blocks own shelf turns in
    story.wants ≡ move.Write lba count → HasStatus story 0
    → (block_size * count ≤ length story.came) × (lba + count ≤ blocks)
    × ((run_of blocks own shelf turns).shelf.disks ≡ with_blocks lba count story)

-- at every moment of a WRITE(10), and after one that failed or was cut off: the first k blocks of its range were written, for one k, and
-- nothing else
abbrev pub FirstBlocksAreWritten : Type 0
FirstBlocksAreWritten =
    (blocks : ℕ) (own : Own) (shelf : Shelf) (turns : List Turn) (lba count : ℕ) → HasDisk blocks own shelf
    → let story = told blocks own shelf turns in
    story.wants ≡ move.Write lba count
    → (k : ℕ) × (k ≤ count) × (block_size * k ≤ length story.came)
    × ((run_of blocks own shelf turns).shelf.disks ≡ with_blocks lba k story)

-- no other command changes a block
abbrev pub OthersChangeNothing : Type 0
OthersChangeNothing =
    (blocks : ℕ) (own : Own) (shelf : Shelf) (turns : List Turn) → HasDisk blocks own shelf
    → let story = told blocks own shelf turns in
    is_write story.wants ≡ false → (run_of blocks own shelf turns).shelf.disks ≡ story.before

-- what a command means to send: its own data, or the blocks as the disk had them
abbrev pub data_of : Move → List Held → List ℕ
data_of (move.In bytes) disks = bytes.items
data_of (move.Read lba count) disks = take (block_size * count) (drop (block_size * lba) (here disks))
data_of move.None disks = []
data_of (move.Write lba count) disks = []
data_of move.Sync disks = []
data_of (move.Fail sense) disks = []

-- what was sent is right at every moment, also in front of a fault; with status 0 it is all
abbrev pub DataIsRight : Type 0
DataIsRight =
    (blocks : ℕ) (own : Own) (shelf : Shelf) (turns : List Turn) → HasDisk blocks own shelf
    → let story = told blocks own shelf turns in let all = data_of story.wants story.before in
    (story.went ≡ take (length story.went) all) × (HasStatus story 0 → story.went ≡ all)

-- the bytes of which the status tells that they were moved: those that were sent, or the blocks that were written, and the one at which the
-- disk failed
abbrev pub moved : Story → ℕ → ℕ
moved story k = length story.went + block_size * k + (if is_write story.wants && story.failed then block_size else 0)

-- the status wrapper has the command's tag, and tells how many of the host's bytes weren't moved. With status 0 no call of the disk failed
abbrev pub StatusIsRight : Type 0
StatusIsRight =
    (blocks : ℕ) (own : Own) (shelf : Shelf) (turns : List Turn) → HasDisk blocks own shelf
    → let story = told blocks own shelf turns in let run = run_of blocks own shelf turns in
    (story.status ≡ [])
    ⊎ ((k : ℕ) × (status : ℕ)
    × (story.status ≡ status_wrapper story.wrapper.tag (story.wrapper.length - moved story k) status)
    × (status ≤ 2) × (status ≡ 0 → story.failed ≡ false)
    × (is_write story.wants ≡ false → k ≡ 0)
    × ((lba count : ℕ) → story.wants ≡ move.Write lba count → (run.shelf.disks ≡ with_blocks lba k story) × (k ≤ count) × (status ≡ 0 → k ≡ count)))

-- which commands move blocks: READ(10) and WRITE(10), from the block in bytes 2 to 5 on, as many as bytes 7 and 8 say (SBC-2)
abbrev pub BlocksAreNamed : Type 0
BlocksAreNamed =
    (unit : Disk) (cdb : List ℕ) (lba count : ℕ)
    → ((scsi.worked unit cdb).moves ≡ move.Write lba count
    → (scsi.byte 0 cdb ≡ 0x2a) × (lba ≡ scsi.number 2 4 cdb) × (count ≡ scsi.number 7 2 cdb))
    × ((scsi.worked unit cdb).moves ≡ move.Read lba count
    → (scsi.byte 0 cdb ≡ 0x28) × (lba ≡ scsi.number 2 4 cdb) × (count ≡ scsi.number 7 2 cdb))

-- What is kept of a device's last command in a run: what it asks for, the disks as they were, the bytes that came for it and that were queued
-- for the host, and its status wrapper.
use Rattle.std.specs.Prelude.{ℕ, ◌+◌, List, [], ◌∷◌, ◌++◌, Bool, false, not, ◌==◌, ◌&&◌, ◌||◌, length, take, drop, Option, Some, None, if◌then◌else◌}
use Rattle.usb_edge.specs.Disk.{Held, Shelf, is_failing}
use Rattle.class_pipes.specs.Pipes.{is_shut}
use Rattle.scsi_core.specs.declared.Move.{Move}
use Rattle.scsi_core.specs.declared.Move.TheVariants as move
use Rattle.scsi_core.specs.Command as scsi
use Rattle.msc_device_machine.specs.declared.transport.Transport.{Transport}
use Rattle.msc_device_machine.specs.declared.transport.Transport.TheVariants.{Command, Broken, Sending, Receiving, Status}
use Rattle.msc_device_machine.specs.Wrapper.{Wrapper, is_good, wrapper_of}
use Rattle.msc_device_machine.specs.Disk.{Call}
use Rattle.msc_device_machine.specs.Storage.{packet, call_of}
use Rattle.msc_device_machine.specs.Runs.{Turn, Comes, Leaves, HaltsIn, ClearsIn, HaltsOut, ClearsOut, Asks, Calls, Begins, Stops, Works, Run, after_turn}

-- The device's disk among those of a shelf: its bytes, and the shelf's disks with others in their place.

abbrev pub is_here : Option ℕ → Bool
is_here None = false
is_here (Some slot) = slot == 0

abbrev pub here : List Held → List ℕ
here [] = []
here (held ∷ more) = if is_here held.slot then held.bytes else here more

abbrev pub with_here : List ℕ → List Held → List Held
with_here bytes [] = []
with_here bytes (held ∷ more) =
    if is_here held.slot then record { name = held.name; bytes = bytes; slot = held.slot } ∷ more else held ∷ with_here bytes more

-- bytes with others written over them from a place on
abbrev pub overwritten : ℕ → List ℕ → List ℕ → List ℕ
overwritten place new bytes = take place bytes ++ new ++ drop (place + length new) bytes

pub record Story : Type 0 where
  -- what the command asks for, and its wrapper
  pub wants : Move
  pub wrapper : Wrapper
  -- the disks as they were when it was taken
  pub before : List Held
  -- the bytes that came for it, and those that were queued for the host
  pub came : List ℕ
  pub went : List ℕ
  -- its status wrapper, once that is queued
  pub status : List ℕ
  -- a call of the disk failed
  pub failed : Bool

-- no command yet
abbrev pub nothing_yet : List Held → Story
nothing_yet disks = record {
  wants = move.None;
  wrapper = record { tag = 0; length = 0; is_in = false; command = [] };
  before = disks;
  came = [];
  went = [];
  status = [];
  failed = false;
}

-- A command begins with the packet that has its wrapper.
abbrev pub begins : Run → Wrapper → Story
begins run w = record {
  wants = (scsi.worked run.storage.unit w.command).moves;
  wrapper = w;
  before = run.shelf.disks;
  came = [];
  went = [];
  status = [];
  failed = false;
}

-- the packet that the work takes, by what is waited for
abbrev pub taken_as : Transport → Story → Run → Story
taken_as Command st run = if is_good (packet run.own) then begins run (wrapper_of (packet run.own)) else st
taken_as (Receiving flow) st run = record st { came = st.came ++ packet run.own }
taken_as Broken st run = st
taken_as (Sending flow loaded) st run = st
taken_as Status st run = st

abbrev pub with_taken : Story → Run → Story
with_taken st run =
    if not run.storage.reset && run.storage.came then taken_as run.storage.transport st run else st

-- a call of the disk that fails
abbrev pub fails_at : Option Call → Shelf → Bool
fails_at None shelf = false
fails_at (Some call) shelf = is_failing shelf

abbrev pub with_call : Bool → Story → Story
with_call fails st = record st { failed = st.failed || fails }

-- the bytes that the work queues, by what they are
abbrev pub queued_as : Transport → List ℕ → Story → Story
queued_as (Sending flow loaded) bytes st = record st { went = st.went ++ bytes }
queued_as Status bytes st = record st { status = st.status ++ bytes }
queued_as Command bytes st = st
queued_as Broken bytes st = st
queued_as (Receiving flow) bytes st = st

abbrev pub queued : Run → Run → List ℕ
queued old new = drop (length old.own.sends.pipe.queue) new.own.sends.pipe.queue

abbrev pub worked_story : Story → Run → Run → Story
worked_story st run new =
    queued_as new.storage.transport (queued run new) (with_call (fails_at (call_of run.storage run.own) run.shelf) (with_taken st run))

-- no work is done while no session stands
abbrev pub after_works : Story → Run → Story
after_works st run = if is_shut run.own then st else worked_story st run (after_turn run Works)

abbrev pub story_after : Story → Run → Turn → Story
story_after st run Works = after_works st run
story_after st run (Comes packet) = st
story_after st run Leaves = st
story_after st run HaltsIn = st
story_after st run ClearsIn = st
story_after st run HaltsOut = st
story_after st run ClearsOut = st
story_after st run (Asks setup) = st
story_after st run (Calls call) = st
story_after st run Begins = st
story_after st run Stops = st

abbrev pub story_of : Story → Run → List Turn → Story
story_of st run [] = st
story_of st run (turn ∷ turns) = story_of (story_after st run turn) (after_turn run turn) turns

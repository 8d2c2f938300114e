-- The pipes that one owner has on a device: pipe 0 sends data, pipe 1 receives data, and pipe 2 is a serial port's
-- notification pipe (CDC 1.2, 3.4.1; USB 2.0, 5.3.2).
use Rattle.std.specs.Prelude.{ℕ, ◌≡◌, ◌⊎◌, ◌-◌, ◌≤◌, List, Bool, ◌==◌, length, take, min, if◌then◌else◌}
use Rattle.device_pipe.specs.InPipe as inward
use Rattle.device_pipe.specs.InPipe.{InPipe, InPhase, is_closed}
use Rattle.device_pipe.specs.OutPipe as out
use Rattle.device_pipe.specs.OutPipe.{OutPipe, OutPhase}
use Rattle.usb_pipe.specs.declared.phase.Phase.{Phase}
use Rattle.usb_pipe.specs.declared.phase.Phase.TheVariants as phase

-- a pipe that sends: the size of its packets, and the most bytes that it queues
pub record Sender : Type 0 where
  pub size : ℕ
  pub capacity : ℕ
  pub pipe : InPipe

-- a pipe that receives, and the most bytes that it holds
pub record Receiver : Type 0 where
  pub capacity : ℕ
  pub pipe : OutPipe

pub record Own : Type 0 where
  pub sends : Sender
  pub receives : Receiver
  pub notifies : Sender

-- what stands for a pipe that the owner hasn't
abbrev pub no_sender : Sender
no_sender = record { size = 0; capacity = 0; pipe = inward.closed }

abbrev pub no_receiver : Receiver
no_receiver = record { capacity = 0; pipe = out.unopened }

abbrev pub no_pipes : Own
no_pipes = record { sends = no_sender; receives = no_receiver; notifies = no_sender }

-- a pipe's number, and the numbers of those that send
abbrev pub IsPipe : ℕ → Type 0
IsPipe n = n ≤ 2

abbrev pub Sends : ℕ → Type 0
Sends n = (n ≡ 0) ⊎ (n ≡ 2)

-- the pipe of a number that sends
abbrev pub sender : Own → ℕ → Sender
sender own n = if n == 2 then own.notifies else own.sends

abbrev pub with_sender : Own → ℕ → Sender → Own
with_sender own n s = if n == 2 then record own { notifies = s } else record own { sends = s }

abbrev pub with_receiver : Own → Receiver → Own
with_receiver own r = record own { receives = r }

-- What a class sees of a pipe.

abbrev pub in_phase : InPhase → Phase
in_phase inward.Closed = phase.Closed
in_phase inward.Rest = phase.Rest
in_phase (inward.Running n left) = phase.Running
in_phase (inward.Posted n) = phase.Posted

abbrev pub out_phase : OutPhase → Phase
out_phase (out.Closed over) = phase.Closed
out_phase out.Rest = phase.Rest
out_phase out.Armed = phase.Running
out_phase (out.Landed packet) = phase.Running
out_phase out.Posted = phase.Posted
out_phase out.Stale = phase.Running

-- a halt hides what is under way
abbrev pub unless_halted : Bool → Phase → Phase
unless_halted halted p = if halted then phase.Halted else p

abbrev pub phase_at : Own → ℕ → Phase
phase_at own n =
    if n == 1
    then unless_halted own.receives.pipe.halted (out_phase own.receives.pipe.phase)
    else unless_halted (sender own n).pipe.halted (in_phase (sender own n).pipe.phase)

-- the bytes that a receiving pipe holds, and those that a sending one has queued
abbrev pub bytes_at : Own → ℕ → List ℕ
bytes_at own n = if n == 1 then own.receives.pipe.held else (sender own n).pipe.queue

abbrev pub capacity_at : Own → ℕ → ℕ
capacity_at own n = if n == 1 then own.receives.capacity else (sender own n).capacity

abbrev pub held_at : Own → ℕ → ℕ
held_at own n = length (bytes_at own n)

abbrev pub room_at : Own → ℕ → ℕ
room_at own n = capacity_at own n - held_at own n

-- What a class does to a pipe.

-- bytes are queued, as many as there is room for
abbrev pub taken_of : Own → ℕ → List ℕ → ℕ
taken_of own n bytes = min (length bytes) (room_at own n)

abbrev pub written : Own → ℕ → List ℕ → Own
written own n bytes =
    with_sender own n (record (sender own n) { pipe = inward.written (sender own n).capacity bytes (sender own n).pipe })

-- the first bytes are read, at most so many
abbrev pub given : Own → ℕ → List ℕ
given own most = take most own.receives.pipe.held

abbrev pub read : Own → ℕ → Own
read own most = with_receiver own (record own.receives { pipe = out.taken most own.receives.pipe })

-- a transfer of all that is queued starts
abbrev pub started : Own → ℕ → Own
started own n = with_sender own n (record (sender own n) { pipe = inward.started (sender own n).size (sender own n).pipe })

-- the receiving pipe is armed for one packet
abbrev pub armed : Own → Own
armed own = with_receiver own (record own.receives { pipe = out.armed own.receives.pipe })

-- the endpoint of a pipe is halted
abbrev pub halted_at : Own → ℕ → Own
halted_at own n =
    if n == 1
    then with_receiver own (record own.receives { pipe = out.halted_ own.receives.pipe })
    else with_sender own n (record (sender own n) { pipe = inward.halted_ (sender own n).pipe })

-- all that a pipe holds or has queued is dropped, with the transfer that runs
abbrev pub dropped_at : Own → ℕ → Own
dropped_at own n =
    if n == 1
    then with_receiver own (record own.receives { pipe = out.dropped own.receives.pipe })
    else with_sender own n (record (sender own n) { pipe = inward.dropped (sender own n).pipe })

-- the fewest free bytes with which a pipe is armed: a packet's (USB 2.0, 5.8.3)
abbrev pub packet_room : ℕ
packet_room = 64

-- the most accesses that one call makes, and that one work of a class makes
abbrev pub call_accesses : ℕ
call_accesses = 6

abbrev pub work_accesses : ℕ
work_accesses = 36

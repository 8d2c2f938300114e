-- What happens to a mass storage device, one thing after another: packets that come, transfers that end, halts, requests, what a user does
-- to the medium, sessions, and tasks.
use Rattle.std.specs.Prelude.{ℕ, List, [], ◌∷◌, ◌++◌, Bool, true, false, ◌&&◌, nat_le, length, if◌then◌else◌}
use Rattle.usb_packet.specs.declared.setup.Setup.{Setup}
use Rattle.device_pipe.specs.InPipe as inward
use Rattle.device_pipe.specs.InPipe.{InPipe, InPhase}
use Rattle.device_pipe.specs.OutPipe as out
use Rattle.device_pipe.specs.OutPipe.{OutPipe, OutPhase}
use Rattle.usb_pipe.specs.declared.call.MscDeviceCall.{MscDeviceCall}
use Rattle.usb_pipe.specs.Own.{Own}
use Rattle.class_pipes.specs.Pipes.{data_in, data_out}
use Rattle.usb_edge.specs.Disk.{Shelf}
use Rattle.msc_device_machine.specs.Storage.{Storage, first, stopped, anew, after_setup, after_came, after_end, after_call, most_packet}
use Rattle.msc_device_machine.specs.Device.{Device, after_work, pipes_after_work}

pub data Turn : Type 0 where
  -- a packet from the host, of at most 64 bytes, is moved to what is held, and its note is taken. Only an armed pipe takes one
  Comes : (packet : List ℕ) → Turn
  -- the transfer for the host ends, and its note is taken
  Leaves : Turn
  -- the endpoint of a pipe is halted, or its halt ends (USB 2.0, 9.4.1 and 9.4.9)
  HaltsIn : Turn
  ClearsIn : Turn
  HaltsOut : Turn
  ClearsOut : Turn
  -- a request to the class
  Asks : (setup : Setup) → Turn
  -- what a user does to the medium
  Calls : (call : MscDeviceCall) → Turn
  -- a session begins, and one ends
  Begins : Turn
  Stops : Turn
  -- the class works in a task
  Works : Turn

-- the device, its pipes, and the disks
pub record Run : Type 0 where
  pub storage : Storage
  pub own : Own
  pub shelf : Shelf

abbrev pub in_of : Run → InPipe
in_of run = run.own.sends.pipe

abbrev pub out_of : Run → OutPipe
out_of run = run.own.receives.pipe

abbrev pub with_in : Run → InPipe → Run
with_in run pipe = record run { own = record run.own { sends = record run.own.sends { pipe = pipe } } }

abbrev pub with_out : Run → OutPipe → Run
with_out run pipe = record run { own = record run.own { receives = record run.own.receives { pipe = pipe } } }

abbrev pub with_storage : Run → Storage → Run
with_storage run s = record run { storage = s }

abbrev pub is_armed : OutPhase → Bool
is_armed out.Armed = true
is_armed (out.Closed over) = false
is_armed out.Rest = false
is_armed (out.Landed packet) = false
is_armed out.Posted = false
is_armed out.Stale = false

abbrev pub is_running : InPhase → Bool
is_running (inward.Running n left) = true
is_running inward.Closed = false
is_running inward.Rest = false
is_running (inward.Posted n) = false

abbrev pub came : Run → List ℕ → Run
came run packet =
    with_storage (with_out run (record (out_of run) { phase = out.Rest; held = (out_of run).held ++ packet })) (after_came run.storage data_out)

abbrev pub left : Run → Run
left run =
    with_storage (with_in run (record (in_of run) { queue = inward.beyond_transfer (in_of run).phase (in_of run).queue; phase = inward.at_rest (in_of run).phase; loaded = 0 }))
    (after_end run.storage data_in)

abbrev pub cleared_in : Run → Run
cleared_in run = with_storage (with_in run (inward.cleared (in_of run))) (after_end run.storage data_in)

abbrev pub cleared_out : Run → Run
cleared_out run = with_storage (with_out run (out.cleared (out_of run))) (after_end run.storage data_out)

abbrev pub begun : Run → Run
begun run = with_storage (with_in (with_out run (out.opened out.unopened)) inward.opened) (anew run.storage)

abbrev pub stopped_ : Run → Run
stopped_ run = with_storage (with_in (with_out run out.unopened) inward.closed) (stopped run.storage)

abbrev pub device_of : Run → Device
device_of run = record { storage = run.storage; shelf = run.shelf }

abbrev pub worked_ : Run → Run
worked_ run = record {
  storage = (after_work (device_of run) run.own).storage;
  own = pipes_after_work (device_of run) run.own;
  shelf = (after_work (device_of run) run.own).shelf;
}

abbrev pub after_turn : Run → Turn → Run
after_turn run (Comes packet) = if is_armed (out_of run).phase && nat_le (length packet) most_packet then came run packet else run
after_turn run Leaves = if is_running (in_of run).phase then left run else run
after_turn run HaltsIn = with_in run (inward.halted_ (in_of run))
after_turn run ClearsIn = cleared_in run
after_turn run HaltsOut = with_out run (out.halted_ (out_of run))
after_turn run ClearsOut = cleared_out run
after_turn run (Asks setup) = with_storage run (after_setup run.storage setup)
after_turn run (Calls call) = with_storage run (after_call run.storage call)
after_turn run Begins = begun run
after_turn run Stops = stopped_ run
after_turn run Works = worked_ run

abbrev pub after_turns : Run → List Turn → Run
after_turns run [] = run
after_turns run (turn ∷ turns) = after_turns (after_turn run turn) turns

-- a device that was just made, with so many blocks and the disks behind it, and pipes that no session has open
abbrev pub made : ℕ → Own → Shelf → Run
made blocks own shelf = record {
  storage = first blocks;
  own = record own { sends = record own.sends { pipe = inward.closed }; receives = record own.receives { pipe = out.unopened } };
  shelf = shelf;
}

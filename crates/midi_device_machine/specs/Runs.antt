-- What happens to a MIDI port in a session, one thing after another, and what of it a user sees: bytes that were taken, events that
-- left for the host, packets that came from it, events that were told.
use Rattle.std.specs.Prelude.{ℕ, List, [], ◌∷◌, ◌++◌, take, drop}
use Rattle.device_pipe.specs.InPipe as inward
use Rattle.device_pipe.specs.OutPipe as out
use Rattle.usb_pipe.specs.declared.call.MidiCall.{MidiCall}
use Rattle.usb_pipe.specs.declared.call.MidiCall.TheVariants.{Send, Recv, Bytes}
use Rattle.usb_pipe.specs.declared.reply.Reply.{Reply}
use Rattle.usb_pipe.specs.declared.reply.Reply.TheVariants as reply
use Rattle.usb_pipe.specs.Own.{Own}
use Rattle.midi_device_machine.specs.Port.{Port, call_reply, after_call, pipes_after_call, pipes_after_work}

pub data Turn : Type 0 where
  -- a packet from the host was moved to what is held
  Comes : (packet : List ℕ) → Turn
  -- a transfer of the first n bytes that are queued ended
  Leaves : (n : ℕ) → Turn
  Works : Turn
  Asks : (call : MidiCall) → Turn

-- the port and its pipes
pub record Run : Type 0 where
  pub port : Port
  pub own : Own

abbrev pub with_queue : Own → List ℕ → Own
with_queue own queue =
    record own { sends = record own.sends { pipe = record own.sends.pipe { queue = queue; phase = inward.at_rest own.sends.pipe.phase } } }

abbrev pub with_held : Own → List ℕ → Own
with_held own held = record own { receives = record own.receives { pipe = record own.receives.pipe { held = held; phase = out.Rest } } }

abbrev pub after_turn : Run → Turn → Run
after_turn run (Comes packet) = record run { own = with_held run.own (run.own.receives.pipe.held ++ packet) }
after_turn run (Leaves n) = record run { own = with_queue run.own (drop n run.own.sends.pipe.queue) }
after_turn run Works = record run { own = pipes_after_work run.own }
after_turn run (Asks call) = record { port = after_call run.port run.own call; own = pipes_after_call run.port run.own call }

abbrev pub after_turns : Run → List Turn → Run
after_turns run [] = run
after_turns run (turn ∷ turns) = after_turns (after_turn run turn) turns

-- what a turn has of each, joined over all turns
abbrev pub joined : (Run → Turn → List ℕ) → Run → List Turn → List ℕ
joined part run [] = []
joined part run (turn ∷ turns) = part run turn ++ joined part (after_turn run turn) turns

-- the bytes of `midi send` that its reply counts
abbrev pub counted : Reply → List ℕ → List ℕ
counted (reply.Took n) bytes = take n bytes
counted _ bytes = []

abbrev pub taken_at_call : Run → MidiCall → List ℕ
taken_at_call run (Send bytes) = counted (call_reply run.port run.own (Send bytes)) bytes.items
taken_at_call run (Recv most) = []
taken_at_call run (Bytes most) = []

abbrev pub taken_at : Run → Turn → List ℕ
taken_at run (Asks call) = taken_at_call run call
taken_at run (Comes packet) = []
taken_at run (Leaves n) = []
taken_at run Works = []

-- the bytes that left for the host
abbrev pub left_at : Run → Turn → List ℕ
left_at run (Leaves n) = take n run.own.sends.pipe.queue
left_at run (Comes packet) = []
left_at run Works = []
left_at run (Asks call) = []

-- the bytes that came from the host
abbrev pub came_at : Run → Turn → List ℕ
came_at run (Comes packet) = packet
came_at run (Leaves n) = []
came_at run Works = []
came_at run (Asks call) = []

-- the events that a reply tells; `midi bytes` tells, unpacked, those that `midi recv` would
abbrev pub events_of : Reply → List ℕ
events_of (reply.Events bytes) = bytes.items
events_of _ = []

abbrev pub told_at_call : Run → MidiCall → List ℕ
told_at_call run (Send bytes) = []
told_at_call run (Recv most) = events_of (call_reply run.port run.own (Recv most))
told_at_call run (Bytes most) = events_of (call_reply run.port run.own (Recv most))

abbrev pub told_at : Run → Turn → List ℕ
told_at run (Asks call) = told_at_call run call
told_at run (Comes packet) = []
told_at run (Leaves n) = []
told_at run Works = []

-- A MIDI port as a device has it: what it holds, its work and its calls (USB MIDI 1.0, 3 and 4).
use Rattle.std.specs.Prelude.{ℕ, ◌*◌, ◌/◌, List, [], ◌∷◌, Bool, false, min, if◌then◌else◌}
use Rattle.std.specs.List.{flat_map}
use Rattle.usb_packet.specs.declared.setup.Setup.{Setup}
use Rattle.usb_pipe.specs.declared.decision.Decision.{Decision}
use Rattle.usb_pipe.specs.declared.decision.Decision.TheVariants as decision
use Rattle.usb_pipe.specs.declared.call.MidiCall.{MidiCall}
use Rattle.usb_pipe.specs.declared.call.MidiCall.TheVariants.{Send, Recv, Bytes}
use Rattle.usb_pipe.specs.declared.reply.Reply.{Reply}
use Rattle.usb_pipe.specs.declared.reply.Reply.TheVariants as reply
use Rattle.usb_pipe.specs.Own.{Own, held_at, room_at, written, given, read}
use Rattle.class_pipes.specs.Pipes.{data_in, data_out, is_shut, with_armed, with_started}
use Rattle.midi_events.specs.Events.{unpacked}
use Rattle.midi_events.specs.Packing.{State, Idle, after_all}
use Rattle.midi_device_machine.specs.Sending.{event_size, event_bytes, taken_count, taken_bytes}

pub record Port : Type 0 where
  -- what is kept of the stream that is sent: the running status, and what no event has carried yet
  pub packer : State

-- when a session begins, and while none stands
abbrev pub first : Port
first = record { packer = Idle }

-- Requests to its interface: all are refused (USB 2.0, 9.2.7).

abbrev pub decided : Setup → Decision
decided setup = decision.Stall

abbrev pub accepts : List ℕ → Bool
accepts bytes = false

-- Its work. No empty packet ends a transfer: events need no end (USB MIDI 1.0, 4).

abbrev pub pipes_after_work : Own → Own
pipes_after_work own = with_started (with_armed own) data_in

-- Its calls.

-- the bytes that are taken of those that are to be sent
abbrev pub taken : Port → Own → List ℕ → List ℕ
taken port own bytes = taken_bytes port.packer (room_at own data_in) bytes

-- the most events that one call takes, whatever it asks for
abbrev pub most_events : ℕ
most_events = 1024

-- how many events a call takes: whole ones alone
abbrev pub event_count : Own → ℕ → ℕ
event_count own most = min (min most most_events) (held_at own data_out / event_size)

-- the bytes of the events that it takes
abbrev pub come : Own → ℕ → List ℕ
come own most = given own (event_size * event_count own most)

-- bytes in fours, each of which is an event
abbrev pub in_fours : List ℕ → List (List ℕ)
in_fours (a ∷ b ∷ c ∷ d ∷ rest) = (a ∷ b ∷ c ∷ d ∷ []) ∷ in_fours rest
in_fours (a ∷ b ∷ c ∷ []) = []
in_fours (a ∷ b ∷ []) = []
in_fours (a ∷ []) = []
in_fours [] = []

abbrev pub open_reply : Port → Own → MidiCall → Reply
open_reply port own (Send bytes) = reply.Took (taken_count port.packer (room_at own data_in) bytes.items)
open_reply port own (Recv most) = reply.Events (record { items = come own most })
open_reply port own (Bytes most) = reply.Got (record { items = flat_map unpacked (in_fours (come own most)) })

abbrev pub call_reply : Port → Own → MidiCall → Reply
call_reply port own call = if is_shut own then reply.Closed else open_reply port own call

abbrev pub open_after_call : Port → Own → MidiCall → Port
open_after_call port own (Send bytes) = record { packer = after_all port.packer (taken port own bytes.items) }
open_after_call port own (Recv most) = port
open_after_call port own (Bytes most) = port

abbrev pub after_call : Port → Own → MidiCall → Port
after_call port own call = if is_shut own then port else open_after_call port own call

abbrev pub open_pipes_after_call : Port → Own → MidiCall → Own
open_pipes_after_call port own (Send bytes) = written own data_in (event_bytes port.packer (taken port own bytes.items))
open_pipes_after_call port own (Recv most) = read own (event_size * event_count own most)
open_pipes_after_call port own (Bytes most) = read own (event_size * event_count own most)

abbrev pub pipes_after_call : Port → Own → MidiCall → Own
pipes_after_call port own call = if is_shut own then own else open_pipes_after_call port own call

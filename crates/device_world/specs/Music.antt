-- The MIDI port as one class of a device (USB MIDI 1.0). Where none is held, nothing is done and nothing is taken.
use Rattle.std.specs.Prelude.{List, ℕ, Bool}
use Rattle.usb_packet.specs.declared.setup.Setup.{Setup}
use Rattle.usb_pipe.specs.declared.decision.Decision.{Decision}
use Rattle.usb_pipe.specs.declared.call.MidiCall.{MidiCall}
use Rattle.usb_pipe.specs.declared.reply.Reply.{Reply}
use Rattle.usb_pipe.specs.declared.reply.Reply.TheVariants as reply
use Rattle.usb_pipe.specs.Own.{Own}
use Rattle.usb_pipe.specs.Rules.{Rules}
use Rattle.device_line.specs.declared.call.DevCall.{DevCall}
use Rattle.device_line.specs.declared.call.DevCall.TheVariants as call
use Rattle.device_owners.specs.Calls.{Calls}
use Rattle.midi_device_machine.specs.Port as midi
use Rattle.device_world.specs.State.{State, Music}

-- with the port after something
abbrev pub with_port : State → (midi.Port → midi.Port) → State
with_port (Music port) f = Music (f port)
with_port s f = s

abbrev pub pipes_after_work : State → Own → Own
pipes_after_work (Music port) own = midi.pipes_after_work own
pipes_after_work s own = own

abbrev pub music_rules : Rules State
music_rules = record {
  after_opened = λ s. with_port s (λ port. midi.first);
  after_closed = λ s. with_port s (λ port. midi.first);
  decides = λ s setup. midi.decided setup;
  after_setup = λ s setup. s;
  accepts = λ s setup bytes. midi.accepts bytes;
  after_data = λ s setup bytes. s;
  after_came = λ s pipe. s;
  after_ended = λ s pipe bytes. s;
  after_cleared = λ s pipe. s;
  after_work = λ s own. s;
  pipes_after_work = λ s own. pipes_after_work s own;
}

-- Calls: its own, and those of others are closed.

abbrev pub music_reply : State → Own → MidiCall → Reply
music_reply (Music port) own c = midi.call_reply port own c
music_reply s own c = reply.Closed

abbrev pub call_reply : State → Own → DevCall → Reply
call_reply s own (call.Midi c) = music_reply s own c
call_reply s own c = reply.Closed

abbrev pub after_call : State → Own → DevCall → State
after_call s own (call.Midi c) = with_port s (λ port. midi.after_call port own c)
after_call s own c = s

abbrev pub music_pipes : State → Own → MidiCall → Own
music_pipes (Music port) own c = midi.pipes_after_call port own c
music_pipes s own c = own

abbrev pub pipes_after_call : State → Own → DevCall → Own
pipes_after_call s own (call.Midi c) = music_pipes s own c
pipes_after_call s own c = own

abbrev pub music_calls : Calls State
music_calls = record {
  reply = λ s own c. call_reply s own c;
  after_call = λ s own c. after_call s own c;
  pipes_after_call = λ s own c. pipes_after_call s own c;
}

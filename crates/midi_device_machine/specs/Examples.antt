-- Sequences that are worked out by hand from USB MIDI 1.0, section 4, and USB 2.0.
use Rattle.std.specs.Prelude.{◌≡◌, ℕ, List, [], ◌∷◌, Bool, false, true, length, replicate}
use Rattle.usb_packet.specs.declared.bus.Toggle.TheVariants.{D0}
use Rattle.usb_packet.specs.declared.setup.Setup.{Setup}
use Rattle.device_pipe.specs.InPipe as inward
use Rattle.device_pipe.specs.InPipe.{InPhase}
use Rattle.device_pipe.specs.OutPipe as out
use Rattle.device_pipe.specs.OutPipe.{OutPhase}
use Rattle.usb_pipe.specs.declared.decision.Decision.TheVariants as decision
use Rattle.usb_pipe.specs.declared.call.MidiCall.{MidiCall}
use Rattle.usb_pipe.specs.declared.call.MidiCall.TheVariants.{Send, Recv, Bytes}
use Rattle.usb_pipe.specs.declared.reply.Reply.{Reply}
use Rattle.usb_pipe.specs.declared.reply.Reply.TheVariants as reply
use Rattle.usb_pipe.specs.Own.{Own, Sender, Receiver, no_pipes, no_sender}
use Rattle.midi_device_machine.specs.Port.{Port, first, decided, call_reply, after_call, pipes_after_call, pipes_after_work}

-- The pipes of a port in a session: bytes queued for the host, and bytes held from it. Both have room for 256.
abbrev pub sending : List ℕ → InPhase → Bool → Sender
sending queue phase halted =
    record { size = 64; capacity = 256; pipe = record { queue = queue; phase = phase; loaded = 0; toggle = D0; halted = halted } }

abbrev pub receiving : List ℕ → OutPhase → Bool → Receiver
receiving held phase halted = record { capacity = 256; pipe = record { phase = phase; halted = halted; toggle = D0; held = held } }

abbrev pub session : Sender → Receiver → Own
session sends receives = record { sends = sends; receives = receives; notifies = no_sender }

abbrev pub idle : Sender
idle = sending [] inward.Rest false

abbrev pub empty : Receiver
empty = receiving [] out.Rest false

-- with no room for a packet, so that nothing is to be armed
abbrev pub full : Receiver
full = receiving (replicate 256 0) out.Rest false

abbrev pub queued : List ℕ → Own
queued bytes = session (sending bytes inward.Rest false) full

abbrev pub held : List ℕ → Own
held bytes = session idle (receiving bytes out.Rest false)

-- Streams. The first has a SysEx of no byte, of one and of two, one of three with a real-time byte in it, and two notes under one
-- status; its events after table 4-1.
abbrev pub stream : List ℕ
stream =
    0xf0 ∷ 0xf7 ∷ 0xf0 ∷ 0x01 ∷ 0xf7 ∷ 0xf0 ∷ 0x01 ∷ 0x02 ∷ 0xf7 ∷ 0xf0 ∷ 0x01 ∷ 0xf8 ∷ 0x02 ∷ 0x03 ∷ 0xf7
    ∷ 0x90 ∷ 0x40 ∷ 0x7f ∷ 0x41 ∷ 0x7f ∷ []

abbrev pub events : List ℕ
events =
    0x06 ∷ 0xf0 ∷ 0xf7 ∷ 0x00 ∷ 0x07 ∷ 0xf0 ∷ 0x01 ∷ 0xf7 ∷ 0x04 ∷ 0xf0 ∷ 0x01 ∷ 0x02 ∷ 0x05 ∷ 0xf7 ∷ 0x00 ∷ 0x00
    ∷ 0x0f ∷ 0xf8 ∷ 0x00 ∷ 0x00 ∷ 0x04 ∷ 0xf0 ∷ 0x01 ∷ 0x02 ∷ 0x06 ∷ 0x03 ∷ 0xf7 ∷ 0x00
    ∷ 0x09 ∷ 0x90 ∷ 0x40 ∷ 0x7f ∷ 0x09 ∷ 0x90 ∷ 0x41 ∷ 0x7f ∷ []

abbrev pub send : List ℕ → MidiCall
send bytes = Send (record { items = bytes })

abbrev pub Does : Port → Own → MidiCall → Reply → Own → Type 0
Does port old call r new = (call_reply port old call ≡ r) × (pipes_after_call port old call ≡ new)

-- what is sent with so many bytes free: how many are taken, and how many are queued then
abbrev pub TakesOf : ℕ → List ℕ → ℕ → ℕ → Type 0
TakesOf queued_before bytes n queued_after =
    let own = queued (replicate queued_before 0) in
    (call_reply first own (send bytes) ≡ reply.Took n)
    × (length (pipes_after_call first own (send bytes)).sends.pipe.queue ≡ queued_after)

-- the port after a note was sent
abbrev pub noted : Port
noted = after_call first (queued []) (send (0x90 ∷ 0x40 ∷ 0x7f ∷ []))

pub record Sends : Type 0 where
  pub whole : Does first (queued []) (send stream) (reply.Took 20) (queued events)
  -- behind what is queued
  pub behind : Does first (queued (1 ∷ 2 ∷ 3 ∷ 4 ∷ [])) (send (0xf6 ∷ [])) (reply.Took 1) (queued (1 ∷ 2 ∷ 3 ∷ 4 ∷ 5 ∷ 0xf6 ∷ 0 ∷ 0 ∷ []))
  -- a status stays for the next call, a session begins without one, and data bytes without one are taken and vanish
  pub runs_on : Does noted (queued []) (send (0x41 ∷ 0x7f ∷ [])) (reply.Took 2) (queued (0x09 ∷ 0x90 ∷ 0x41 ∷ 0x7f ∷ []))
  pub anew : Does first (queued []) (send (0x41 ∷ 0x7f ∷ [])) (reply.Took 2) (queued [])
  -- with no byte free, 3, 4, 7 and 8: two notes, and a byte more
  pub none_free : TakesOf 256 (0x90 ∷ 0x40 ∷ 0x7f ∷ 0x41 ∷ 0x7f ∷ 0x42 ∷ []) 0 256
  pub three : TakesOf 253 (0x90 ∷ 0x40 ∷ 0x7f ∷ 0x41 ∷ 0x7f ∷ 0x42 ∷ []) 0 253
  pub four : TakesOf 252 (0x90 ∷ 0x40 ∷ 0x7f ∷ 0x41 ∷ 0x7f ∷ 0x42 ∷ []) 3 256
  pub seven : TakesOf 249 (0x90 ∷ 0x40 ∷ 0x7f ∷ 0x41 ∷ 0x7f ∷ 0x42 ∷ []) 3 253
  pub eight : TakesOf 248 (0x90 ∷ 0x40 ∷ 0x7f ∷ 0x41 ∷ 0x7f ∷ 0x42 ∷ []) 5 256
  -- a clock's tick takes the last room inside a note, and bytes without an event take none
  pub tick : TakesOf 252 (0x90 ∷ 0xf8 ∷ 0x40 ∷ 0x7f ∷ []) 2 256
  pub no_event : TakesOf 252 (0x40 ∷ 0x41 ∷ 0x90 ∷ 0x40 ∷ []) 4 252
  -- a transfer that runs, and a halt, stop no byte
  pub running :
      Does first (session (sending [] (inward.Running 0 []) false) full) (send (0xfa ∷ [])) (reply.Took 1)
      (session (sending (0x0f ∷ 0xfa ∷ 0 ∷ 0 ∷ []) (inward.Running 0 []) false) full)
  pub halted :
      Does first (session (sending [] inward.Rest true) full) (send (0xfa ∷ [])) (reply.Took 1)
      (session (sending (0x0f ∷ 0xfa ∷ 0 ∷ 0 ∷ []) inward.Rest true) full)

-- a note, a program change on cable 3, and the first byte of an event that hasn't come whole
abbrev pub two_and_a_byte : List ℕ
two_and_a_byte = 0x09 ∷ 0x90 ∷ 0x40 ∷ 0x7f ∷ 0x3c ∷ 0xc1 ∷ 0x05 ∷ 0x00 ∷ 0x09 ∷ []

abbrev pub Tells : List ℕ → MidiCall → Reply → List ℕ → Type 0
Tells old call r new = Does first (held old) call r (held new)

pub record Receives : Type 0 where
  pub one :
      Tells two_and_a_byte (Recv 1) (reply.Events (record { items = 0x09 ∷ 0x90 ∷ 0x40 ∷ 0x7f ∷ [] }))
      (0x3c ∷ 0xc1 ∷ 0x05 ∷ 0x00 ∷ 0x09 ∷ [])
  pub whole_ones :
      Tells two_and_a_byte (Recv 9) (reply.Events (record { items = 0x09 ∷ 0x90 ∷ 0x40 ∷ 0x7f ∷ 0x3c ∷ 0xc1 ∷ 0x05 ∷ 0x00 ∷ [] }))
      (0x09 ∷ [])
  pub part : Tells (0x09 ∷ 0x90 ∷ 0x40 ∷ []) (Recv 1) (reply.Events (record { items = [] })) (0x09 ∷ 0x90 ∷ 0x40 ∷ [])
  pub none : Tells [] (Recv 1) (reply.Events (record { items = [] })) []
  -- the bytes that they carry, whatever the cable
  pub bytes : Tells two_and_a_byte (Bytes 2) (reply.Got (record { items = 0x90 ∷ 0x40 ∷ 0x7f ∷ 0xc1 ∷ 0x05 ∷ [] })) (0x09 ∷ [])
  pub first_bytes : Tells two_and_a_byte (Bytes 1) (reply.Got (record { items = 0x90 ∷ 0x40 ∷ 0x7f ∷ [] })) (0x3c ∷ 0xc1 ∷ 0x05 ∷ 0x00 ∷ 0x09 ∷ [])
  pub no_bytes : Tells (0x09 ∷ []) (Bytes 1) (reply.Got (record { items = [] })) (0x09 ∷ [])

-- What its work makes of its pipes.
abbrev pub Arms : Receiver → Receiver → Type 0
Arms old new = pipes_after_work (session idle old) ≡ session idle new

abbrev pub Starts : Sender → Sender → Type 0
Starts old new = pipes_after_work (session old full) ≡ session new full

abbrev pub note : List ℕ
note = 0x09 ∷ 0x90 ∷ 0x40 ∷ 0x7f ∷ []

pub record Works : Type 0 where
  pub room : Arms (receiving (replicate 192 0) out.Rest false) (receiving (replicate 192 0) out.Armed false)
  pub no_room : Arms (receiving (replicate 193 0) out.Rest false) (receiving (replicate 193 0) out.Rest false)
  pub out_halted : Arms (receiving [] out.Rest true) (receiving [] out.Rest true)
  pub out_posted : Arms (receiving [] out.Posted false) (receiving [] out.Posted false)
  pub starts : Starts (sending note inward.Rest false) (sending note (inward.Running 4 (note ∷ [])) false)
  pub nothing : Starts idle idle
  pub in_halted : Starts (sending note inward.Rest true) (sending note inward.Rest true)
  pub in_posted : Starts (sending note (inward.Posted 4) false) (sending note (inward.Posted 4) false)
  -- both in one task
  pub both :
      pipes_after_work (session (sending note inward.Rest false) empty)
      ≡ session (sending note (inward.Running 4 (note ∷ [])) false) (receiving [] out.Armed false)

-- while no session stands
pub record ClosedCalls : Type 0 where
  pub send_ : Does first no_pipes (send (0xf8 ∷ [])) reply.Closed no_pipes
  pub recv : Does first no_pipes (Recv 1) reply.Closed no_pipes
  pub bytes : Does first no_pipes (Bytes 1) reply.Closed no_pipes

-- a class request to its interface, with or without data
abbrev pub ask : ℕ → ℕ → Setup
ask kind length = record { request_type = kind; request = 1; value = 0; index = 1; length = length }

pub record Requests : Type 0 where
  pub get : decided (ask 0xa1 4) ≡ decision.Stall
  pub set : decided (ask 0x21 0) ≡ decision.Stall

pub record WorkedPort : Type 0 where
  pub sends : Sends
  pub receives : Receives
  pub works : Works
  pub closed : ClosedCalls
  pub requests : Requests

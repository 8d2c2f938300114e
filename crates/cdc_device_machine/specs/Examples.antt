-- Sequences that are worked out by hand from CDC PSTN 1.2 and USB 2.0.
use Rattle.std.specs.Prelude.{◌≡◌, ℕ, List, [], ◌∷◌, Bool, true, false, replicate}
use Rattle.usb_packet.specs.declared.bus.Toggle.TheVariants.{D0}
use Rattle.usb_packet.specs.declared.setup.Setup.{Setup}
use Rattle.device_pipe.specs.InPipe as inward
use Rattle.device_pipe.specs.InPipe.{InPhase}
use Rattle.device_pipe.specs.OutPipe as out
use Rattle.device_pipe.specs.OutPipe.{OutPhase}
use Rattle.usb_pipe.specs.declared.decision.Decision.{Decision}
use Rattle.usb_pipe.specs.declared.decision.Decision.TheVariants as decision
use Rattle.usb_pipe.specs.declared.call.CdcDeviceCall.{CdcDeviceCall}
use Rattle.usb_pipe.specs.declared.call.CdcDeviceCall.TheVariants.{Write, Read, Flush, Avail, Line, Notify}
use Rattle.usb_pipe.specs.declared.reply.Reply.{Reply}
use Rattle.usb_pipe.specs.declared.reply.Reply.TheVariants as reply
use Rattle.usb_pipe.specs.Own.{Own, Sender, Receiver, no_pipes}
use Rattle.cdc_device_machine.specs.Port.{Port, first, decided, after_setup, accepts, after_data, after_ended, pipes_after_work, after_work, call_reply, pipes_after_call}

-- so many bytes
abbrev pub bytes : ℕ → List ℕ
bytes n = replicate n 7

-- The pipes of a port in a session: bytes queued for the host and a halt there, bytes held from the host and a halt there.
abbrev pub sending : List ℕ → InPhase → Bool → Sender
sending queue phase halted =
    record { size = 64; capacity = 512; pipe = record { queue = queue; phase = phase; loaded = 0; toggle = D0; halted = halted } }

abbrev pub receiving : List ℕ → OutPhase → Bool → Receiver
receiving held phase halted = record { capacity = 256; pipe = record { phase = phase; halted = halted; toggle = D0; held = held } }

abbrev pub noticing : List ℕ → InPhase → Sender
noticing queue phase =
    record { size = 16; capacity = 16; pipe = record { queue = queue; phase = phase; loaded = 0; toggle = D0; halted = false } }

-- with no room for a packet, so that nothing but an empty packet is to be done
abbrev pub full : Receiver
full = receiving (bytes 256) out.Rest false

abbrev pub session : Sender → Receiver → Own
session sends receives = record { sends = sends; receives = receives; notifies = noticing [] inward.Rest }

abbrev pub resting : Own
resting = session (sending [] inward.Rest false) full

-- The pipe that receives: what its work makes of it with so many bytes held.
abbrev pub Arms : Receiver → Receiver → Type 0
Arms old new =
    pipes_after_work first (session (sending [] inward.Rest false) old) ≡ session (sending [] inward.Rest false) new

pub record ArmsForAPacket : Type 0 where
  pub short : Arms (receiving (bytes 193) out.Rest false) (receiving (bytes 193) out.Rest false)
  pub enough : Arms (receiving (bytes 192) out.Rest false) (receiving (bytes 192) out.Armed false)
  pub read :
      pipes_after_call 4 (session (sending [] inward.Rest false) (receiving (bytes 193) out.Rest false)) (Read 1)
      ≡ session (sending [] inward.Rest false) (receiving (bytes 192) out.Rest false)
  pub halted : Arms (receiving [] out.Rest true) (receiving [] out.Rest true)
  pub posted : Arms (receiving [] out.Posted false) (receiving [] out.Posted false)

-- The pipe that sends: what the work makes of it after the end of a transfer on a pipe.
abbrev pub Ends : ℕ → ℕ → Sender → Sender → Type 0
Ends pipe size old new = pipes_after_work (after_ended first pipe size) (session old full) ≡ session new full

abbrev pub idle : Sender
idle = sending [] inward.Rest false

abbrev pub empty_packet : Sender
empty_packet = sending [] (inward.Running 0 ([] ∷ [])) false

pub record EmptyPackets : Type 0 where
  pub one : Ends 0 64 idle empty_packet
  pub two : Ends 0 128 idle empty_packet
  pub most : Ends 0 512 idle empty_packet
  pub none : Ends 0 0 idle idle
  pub below : Ends 0 63 idle idle
  pub part : Ends 0 127 idle idle
  pub above : Ends 0 129 idle idle
  pub half : Ends 0 32 idle idle
  pub notices : Ends 2 64 idle idle
  pub queued : Ends 0 128 (sending (1 ∷ []) inward.Rest false) (sending (1 ∷ []) inward.Rest false)
  pub halted : Ends 0 128 (sending [] inward.Rest true) (sending [] inward.Rest true)
  pub running : Ends 0 128 empty_packet empty_packet
  -- it is owed once
  pub once : after_work (after_ended first 0 128) ≡ first

-- Calls in a session.

abbrev pub Does : Own → CdcDeviceCall → Reply → Own → Type 0
Does old call r new = (call_reply first old call ≡ r) × (pipes_after_call 4 old call ≡ new)

-- two bytes that are queued
abbrev pub queued : InPhase → Bool → Own
queued phase halted = session (sending (97 ∷ 98 ∷ []) phase halted) full

abbrev pub two_bytes : InPhase
two_bytes = inward.Running 2 ((97 ∷ 98 ∷ []) ∷ [])

-- a port at 9,600 bits in a second
abbrev pub slow_with_lines : ℕ → ℕ → ℕ → ℕ → ℕ → Port
slow_with_lines stop parity bits dtr rts =
    record first { coding = record { rate = 9600; stop = stop; parity = parity; bits = bits }; dtr = dtr; rts = rts }

pub record Flushes : Type 0 where
  pub starts : Does (queued inward.Rest false) Flush reply.Done (queued two_bytes false)
  pub busy : Does (queued two_bytes false) Flush reply.Busy (queued two_bytes false)
  pub posted : Does (queued (inward.Posted 2) false) Flush reply.Busy (queued (inward.Posted 2) false)
  pub halted : Does (queued inward.Rest true) Flush reply.Halted (queued inward.Rest true)
  pub nothing : Does resting Flush reply.Done resting

pub record Transfers : Type 0 where
  pub write : Does resting (Write (record { items = 97 ∷ 98 ∷ [] })) (reply.Took 2) (queued inward.Rest false)
  pub no_room :
      Does (session (sending (bytes 511) inward.Rest false) full) (Write (record { items = 7 ∷ 8 ∷ [] })) (reply.Took 1)
      (session (sending (bytes 512) inward.Rest false) full)
  pub read :
      Does (session idle (receiving (1 ∷ 2 ∷ 3 ∷ []) out.Armed false)) (Read 2) (reply.Got (record { items = 1 ∷ 2 ∷ [] }))
      (session idle (receiving (3 ∷ []) out.Armed false))
  pub read_all :
      Does (session idle (receiving (1 ∷ []) out.Rest false)) (Read 2) (reply.Got (record { items = 1 ∷ [] }))
      (session idle (receiving [] out.Rest false))
  -- one call reads no more than 1,024 bytes
  pub read_most :
      Does (session idle (receiving (bytes 1025) out.Rest false)) (Read 1025) (reply.Got (record { items = bytes 1024 }))
      (session idle (receiving (bytes 1) out.Rest false))
  pub avail : Does (session idle (receiving (1 ∷ 2 ∷ 3 ∷ []) out.Rest false)) Avail (reply.Held 3) (session idle (receiving (1 ∷ 2 ∷ 3 ∷ []) out.Rest false))
  pub line : Does resting Line (reply.LineIs 115200 0 0 8 0 0) resting
  -- each field in its place: rate, stop bits, parity, data bits, DTR, RTS
  pub line_fields : call_reply (slow_with_lines 1 2 7 1 0) resting Line ≡ reply.LineIs 9600 1 2 7 1 0

-- SERIAL_STATE of interface 4 with the bits for DCD and DSR (CDC PSTN 1.2, tables 30 and 31)
abbrev pub serial_state : List ℕ
serial_state = 0xa1 ∷ 0x20 ∷ 0 ∷ 0 ∷ 4 ∷ 0 ∷ 2 ∷ 0 ∷ 3 ∷ 0 ∷ []

abbrev pub notified : List ℕ → Own
notified notice = record resting { notifies = noticing notice (inward.Running 10 (notice ∷ [])) }

pub record Notifications : Type 0 where
  pub sent : Does resting (Notify 3) reply.Done (notified serial_state)
  pub bits : Does resting (Notify 0x0140) reply.Done (notified (0xa1 ∷ 0x20 ∷ 0 ∷ 0 ∷ 4 ∷ 0 ∷ 2 ∷ 0 ∷ 0x40 ∷ 1 ∷ []))
  pub busy : Does (notified serial_state) (Notify 5) reply.Busy (notified serial_state)

-- while no session stands
pub record ClosedCalls : Type 0 where
  pub write : Does no_pipes (Write (record { items = 1 ∷ [] })) reply.Closed no_pipes
  pub read : Does no_pipes (Read 1) reply.Closed no_pipes
  pub flush : Does no_pipes Flush reply.Closed no_pipes
  pub avail : Does no_pipes Avail reply.Closed no_pipes
  pub line : Does no_pipes Line reply.Closed no_pipes
  pub notify : Does no_pipes (Notify 1) reply.Closed no_pipes

-- Requests to interface 4: bmRequestType, bRequest, wValue, wIndex, wLength.

abbrev pub Asks : Port → ℕ → ℕ → ℕ → ℕ → ℕ → Decision → Port → Type 0
Asks old kind request value index length d new =
    let setup : Setup = record { request_type = kind; request = request; value = value; index = index; length = length } in
    (decided 4 old setup ≡ d) × (after_setup 4 old setup ≡ new)

-- 9,600 bits in a second, one stop bit, no parity, 8 data bits
abbrev pub slow : List ℕ
slow = 0x80 ∷ 0x25 ∷ 0 ∷ 0 ∷ 0 ∷ 0 ∷ 8 ∷ []

abbrev pub slow_port : Port
slow_port = slow_with_lines 0 0 8 0 0

abbrev pub with_lines : ℕ → ℕ → Port
with_lines dtr rts = record first { dtr = dtr; rts = rts }

pub record Requests : Type 0 where
  pub set_coding : Asks first 0x21 0x20 0 4 7 (decision.Take 7) first
  pub short_coding : Asks first 0x21 0x20 0 4 6 decision.Stall first
  pub long_coding : Asks first 0x21 0x20 0 4 8 decision.Stall first
  pub get_coding : Asks slow_port 0xa1 0x21 0 4 7 (decision.Data (record { items = slow })) slow_port
  -- the request's length cuts what is sent, and not what is decided
  pub short_get : Asks slow_port 0xa1 0x21 0 4 2 (decision.Data (record { items = slow })) slow_port
  pub first_coding : Asks first 0xa1 0x21 0 4 7 (decision.Data (record { items = 0 ∷ 0xc2 ∷ 1 ∷ 0 ∷ 0 ∷ 0 ∷ 8 ∷ [] })) first
  pub dtr : Asks first 0x21 0x22 1 4 0 decision.Status (with_lines 1 0)
  pub rts : Asks first 0x21 0x22 2 4 0 decision.Status (with_lines 0 1)
  pub off : Asks (with_lines 1 1) 0x21 0x22 0xfffc 4 0 decision.Status first
  pub lines_with_data : Asks first 0x21 0x22 3 4 1 decision.Stall first
  pub other_interface : Asks first 0x21 0x22 3 5 0 decision.Stall first
  pub data_interface : Asks slow_port 0xa1 0x21 0 5 7 decision.Stall slow_port
  pub send_break : Asks first 0x21 0x23 100 4 0 decision.Stall first
  pub set_as_get : Asks first 0xa1 0x20 0 4 7 decision.Stall first

-- The bytes of SET_LINE_CODING: whether they are taken, and what they leave.

abbrev pub Sets : List ℕ → Bool → Port → Type 0
Sets bytes taken new = (accepts bytes ≡ taken) × (after_data first bytes ≡ new)

-- these last three bytes, at 9,600 bits in a second
abbrev pub at_slow : ℕ → ℕ → ℕ → List ℕ
at_slow stop parity bits = 0x80 ∷ 0x25 ∷ 0 ∷ 0 ∷ stop ∷ parity ∷ bits ∷ []

abbrev pub slow_with : ℕ → ℕ → ℕ → Port
slow_with stop parity bits = slow_with_lines stop parity bits 0 0

pub record Codings : Type 0 where
  pub taken : Sets slow true slow_port
  pub fast : Sets (0 ∷ 0xe1 ∷ 0xf5 ∷ 0x05 ∷ 2 ∷ 4 ∷ 16 ∷ []) true (record first { coding = record { rate = 100000000; stop = 2; parity = 4; bits = 16 } })
  pub five : Sets (at_slow 1 1 5) true (slow_with 1 1 5)
  pub six_bytes : Sets (0x80 ∷ 0x25 ∷ 0 ∷ 0 ∷ 0 ∷ 0 ∷ []) false first
  pub eight_bytes : Sets (0x80 ∷ 0x25 ∷ 0 ∷ 0 ∷ 0 ∷ 0 ∷ 8 ∷ 0 ∷ []) false first
  pub stop : Sets (at_slow 3 0 8) false first
  pub parity : Sets (at_slow 0 5 8) false first
  pub four : Sets (at_slow 0 0 4) false first
  pub nine : Sets (at_slow 0 0 9) false first
  pub fifteen : Sets (at_slow 0 0 15) false first
  pub seventeen : Sets (at_slow 0 0 17) false first

pub record WorkedPort : Type 0 where
  pub arms : ArmsForAPacket
  pub empty_packets : EmptyPackets
  pub flushes : Flushes
  pub transfers : Transfers
  pub notifications : Notifications
  pub closed : ClosedCalls
  pub requests : Requests
  pub codings : Codings

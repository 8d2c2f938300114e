-- What holds of every serial port, and what its definitions have to give.
use Rattle.std.specs.Prelude.{◌≡◌, ◌≢◌, ◌↔◌, ◌⊎◌, ℕ, ◌+◌, ◌*◌, ◌^◌, ◌<◌, ◌≤◌, List, ◌++◌, false, IsTrue, All, length, slice_index}
use Rattle.usb_packet.specs.declared.setup.Setup.{Setup}
use Rattle.usb_packet.specs.Setup.{fields_of, word_at}
use Rattle.usb_pipe.specs.declared.decision.Decision.TheVariants as decision
use Rattle.usb_pipe.specs.declared.phase.Phase.TheVariants.{Closed, Rest}
use Rattle.usb_pipe.specs.declared.call.CdcDeviceCall.{CdcDeviceCall}
use Rattle.usb_pipe.specs.declared.call.CdcDeviceCall.TheVariants.{Write, Read, Flush, Avail, Line, Notify}
use Rattle.usb_pipe.specs.declared.reply.Reply.TheVariants as reply
use Rattle.usb_pipe.specs.Own.{Own, phase_at, held_at, capacity_at, started, armed}
use Rattle.cdc_device_machine.specs.Coding.{Coding, coding_bytes, coding_of}
use Rattle.cdc_device_machine.specs.Port.{Port, decided, after_setup, accepts, after_data, after_ended, owes_empty, pipes_after_work, notification, call_reply, pipes_after_call}

-- Line codings.

abbrev pub IsByte : ℕ → Type 0
IsByte b = b < 256

-- a coding is read from its bytes, and the bytes are those of the coding that they are read as
abbrev pub CodingIsRead : Type 0
CodingIsRead = (c : Coding) → c.rate < 2 ^ 32 → coding_of (coding_bytes c) ≡ c

abbrev pub BytesAreKept : Type 0
BytesAreKept = (bytes : List ℕ) → length bytes ≡ 7 → All IsByte bytes → coding_bytes (coding_of bytes) ≡ bytes

-- table 17 of CDC PSTN 1.2: one of three stop bits, one of five parities, and 5 to 8 or 16 data bits
abbrev pub IsOfTable : List ℕ → Type 0
IsOfTable bytes =
    (length bytes ≡ 7) × (slice_index bytes 4 < 3) × (slice_index bytes 5 < 5)
    × (((5 ≤ slice_index bytes 6) × (slice_index bytes 6 ≤ 8)) ⊎ (slice_index bytes 6 ≡ 16))

abbrev pub TakesTheTable : Type 0
TakesTheTable = (bytes : List ℕ) → IsTrue (accepts bytes) ↔ IsOfTable bytes

-- what is refused changes nothing
abbrev pub RefusalKeepsCoding : Type 0
RefusalKeepsCoding = (port : Port) (bytes : List ℕ) → accepts bytes ≡ false → after_data port bytes ≡ port

-- the requests of an interface (CDC PSTN 1.2, table 13)
abbrev pub set_coding : ℕ → Setup
set_coding interface = record { request_type = 0x21; request = 0x20; value = 0; index = interface; length = 7 }

abbrev pub get_coding : ℕ → Setup
get_coding interface = record { request_type = 0xa1; request = 0x21; value = 0; index = interface; length = 7 }

abbrev pub set_lines : ℕ → ℕ → Setup
set_lines interface value = record { request_type = 0x21; request = 0x22; value = value; index = interface; length = 0 }

-- SET_LINE_CODING is let send its bytes, and GET_LINE_CODING gives those that were taken last
abbrev pub CodingIsTold : Type 0
CodingIsTold =
    (interface : ℕ) (port : Port) (bytes : List ℕ) → interface < 256 → All IsByte bytes → IsTrue (accepts bytes)
    → (decided interface port (set_coding interface) ≡ decision.Take 7)
    × (decided interface (after_data port bytes) (get_coding interface) ≡ decision.Data (record { items = bytes }))

-- SET_LINE_CODING sets nothing but the coding
abbrev pub CodingIsAlone : Type 0
CodingIsAlone =
    (port : Port) (bytes : List ℕ) → after_data port bytes ≡ record port { coding = (after_data port bytes).coding }

-- Control lines: the lowest bit of wValue is DTR, the next one RTS, and the others say nothing (CDC PSTN 1.2, table 18).
abbrev pub LinesAreSet : Type 0
LinesAreSet =
    (interface : ℕ) (port : Port) (dtr rts rest : ℕ) → interface < 256 → dtr < 2 → rts < 2
    → let setup = set_lines interface (dtr + 2 * rts + 4 * rest) in
    (decided interface port setup ≡ decision.Status) × (after_setup interface port setup ≡ record port { dtr = dtr; rts = rts })

-- a request to another interface is refused, and changes nothing
abbrev pub OthersAreRefused : Type 0
OthersAreRefused =
    (interface other : ℕ) (port : Port) (setup : Setup) → other < 256 → other ≢ interface → setup.index ≡ other
    → (decided interface port setup ≡ decision.Stall) × (after_setup interface port setup ≡ port)

-- no request but SET_CONTROL_LINE_STATE changes anything at its SETUP packet
abbrev pub SetupKeeps : Type 0
SetupKeeps =
    (interface : ℕ) (port : Port) (setup : Setup) → decided interface port setup ≢ decision.Status
    → after_setup interface port setup ≡ port

-- Transfers.

-- a packet of 64 bytes at least, and no part of another
abbrev pub IsWholePackets : ℕ → Type 0
IsWholePackets n = (k : ℕ) × (1 ≤ k) × (n ≡ 64 * k)

-- after the end of a transfer an empty packet is owed exactly where the host can't tell that end, nothing more is queued
-- and the pipe rests
abbrev pub EmptyPacketEndsWholePackets : Type 0
EmptyPacketEndsWholePackets =
    (port : Port) (own : Own) (n : ℕ)
    → IsTrue (owes_empty (after_ended port 0 n) own)
    ↔ (IsWholePackets n × (held_at own 0 ≡ 0) × (phase_at own 0 ≡ Rest))

-- the end of a transfer on another pipe says nothing
abbrev pub OnlyDataEnds : Type 0
OnlyDataEnds = (port : Port) (pipe n : ℕ) → pipe ≢ 0 → after_ended port pipe n ≡ port

-- its work arms the pipe that receives exactly where that rests and 64 bytes are free
abbrev pub ArmsWithRoom : Type 0
ArmsWithRoom =
    (port : Port) (own : Own)
    → (phase_at own 1 ≡ Rest → held_at own 1 + 64 ≤ capacity_at own 1 → (pipes_after_work port own).receives ≡ (armed own).receives)
    × ((phase_at own 1 ≢ Rest) ⊎ (capacity_at own 1 < held_at own 1 + 64) → (pipes_after_work port own).receives ≡ own.receives)

-- its work leaves all bytes that are held or queued, and the notification pipe
abbrev pub WorkKeepsBytes : Type 0
WorkKeepsBytes =
    (port : Port) (own : Own)
    → let after = pipes_after_work port own in
    (after.sends.pipe.queue ≡ own.sends.pipe.queue) × (after.receives.pipe.held ≡ own.receives.pipe.held)
    × (after.notifies ≡ own.notifies)

-- Calls.

-- where a data pipe is closed no call does anything
abbrev pub ClosedCallsDoNothing : Type 0
ClosedCallsDoNothing =
    (interface : ℕ) (port : Port) (own : Own) (call : CdcDeviceCall)
    → (phase_at own 0 ≡ Closed) ⊎ (phase_at own 1 ≡ Closed)
    → (call_reply port own call ≡ reply.Closed) × (pipes_after_call interface own call ≡ own)

-- the pipes that a call leaves as they are
abbrev pub KeepsOthers : CdcDeviceCall → Own → Own → Type 0
KeepsOthers (Write bytes) old new = (new.receives ≡ old.receives) × (new.notifies ≡ old.notifies)
KeepsOthers (Read most) old new = (new.sends ≡ old.sends) × (new.notifies ≡ old.notifies)
KeepsOthers Flush old new = (new.receives ≡ old.receives) × (new.notifies ≡ old.notifies)
KeepsOthers Avail old new = new ≡ old
KeepsOthers Line old new = new ≡ old
KeepsOthers (Notify bits) old new = (new.sends ≡ old.sends) × (new.receives ≡ old.receives)

abbrev pub CallsHaveTheirPipes : Type 0
CallsHaveTheirPipes =
    (interface : ℕ) (own : Own) (call : CdcDeviceCall) → KeepsOthers call own (pipes_after_call interface own call)

-- what is read is what was held first, at most as many bytes as are asked for and at most 1,024, and the rest stays
abbrev pub ReadsTheFirst : Type 0
ReadsTheFirst =
    (interface most : ℕ) (port : Port) (own : Own) → phase_at own 0 ≢ Closed → phase_at own 1 ≢ Closed
    → (bytes : List ℕ)
    × (call_reply port own (Read most) ≡ reply.Got (record { items = bytes }))
    × (length bytes ≤ most) × (length bytes ≤ 1024)
    × (own.receives.pipe.held ≡ bytes ++ (pipes_after_call interface own (Read most)).receives.pipe.held)

-- a flush starts what is queued, and nothing where nothing is
abbrev pub FlushStartsBytes : Type 0
FlushStartsBytes =
    (interface : ℕ) (own : Own) → phase_at own 0 ≡ Rest → phase_at own 1 ≢ Closed
    → (held_at own 0 ≡ 0 → pipes_after_call interface own Flush ≡ own)
    × (held_at own 0 ≢ 0 → pipes_after_call interface own Flush ≡ started own 0)

-- a notification (CDC PSTN 1.2, 6.5.4) has a header of eight bytes, and as many behind it as that says: the bits, the low byte first
abbrev pub NotificationsAreWhole : Type 0
NotificationsAreWhole =
    (interface bits : ℕ) → bits < 2 ^ 16
    → let bytes = notification interface bits in
    (fields_of bytes ≡ record { request_type = 0xa1; request = 0x20; value = 0; index = interface; length = 2 })
    × (length bytes ≡ 8 + word_at bytes 6) × (word_at bytes 8 ≡ bits)

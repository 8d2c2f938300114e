-- A serial port as a device has it: what it holds, its requests, its work and its calls (CDC PSTN 1.2).
use Rattle.std.specs.Prelude.{ℕ, ◌/◌, ◌%◌, List, [], ◌∷◌, Bool, false, not, ◌==◌, ◌&&◌, min, if◌then◌else◌}
use Rattle.usb_packet.specs.declared.setup.Setup.{Setup}
use Rattle.usb_pipe.specs.declared.decision.Decision.{Decision}
use Rattle.usb_pipe.specs.declared.decision.Decision.TheVariants as decision
use Rattle.usb_pipe.specs.declared.call.CdcDeviceCall.{CdcDeviceCall}
use Rattle.usb_pipe.specs.declared.call.CdcDeviceCall.TheVariants.{Write, Read, Flush, Avail, Line, Notify}
use Rattle.usb_pipe.specs.declared.reply.Reply.{Reply}
use Rattle.usb_pipe.specs.declared.reply.Reply.TheVariants as reply
use Rattle.usb_pipe.specs.Own.{Own, phase_at, held_at, taken_of, written, given, read, started}
use Rattle.class_pipes.specs.Pipes.{data_in, data_out, is_rest, is_shut, with_armed, with_started, start_reply}
use Rattle.class_pipes.specs.Requests.{is_request, with_length}
use Rattle.cdc_device_machine.specs.Coding.{Coding, first_coding, coding_size, coding_bytes, coding_of, are_coding}

pub record Port : Type 0 where
  pub coding : Coding
  -- the control lines (6.3.12): 1 where the host has them on, else 0
  pub dtr : ℕ
  pub rts : ℕ
  -- a transfer of whole packets ended in this task, so that the host can't tell its end (USB 2.0, 5.8.3)
  pub is_open_ended : Bool

-- the port with the number of its communication interface
pub record Serial : Type 0 where
  pub interface : ℕ
  pub port : Port

-- when a session begins, and while none stands
abbrev pub first : Port
first = record { coding = first_coding; dtr = 0; rts = 0; is_open_ended = false }

-- its pipe for notifications, beside its data pipes
abbrev pub notices : ℕ
notices = 2

-- Requests (table 13): to the communication interface, which the low byte of wIndex names.

abbrev pub is_mine : ℕ → Setup → Bool
is_mine interface setup = (setup.index % 256) == interface

abbrev pub is_set_coding : Setup → Bool
is_set_coding setup = is_request 0x21 0x20 setup

abbrev pub is_get_coding : Setup → Bool
is_get_coding setup = is_request 0xa1 0x21 setup

abbrev pub is_set_lines : Setup → Bool
is_set_lines setup = is_request 0x21 0x22 setup

-- those that aren't listed are refused
abbrev pub listed : Port → Setup → Decision
listed port setup =
    if is_set_coding setup then with_length coding_size setup (decision.Take coding_size)
    else (if is_get_coding setup then decision.Data (record { items = coding_bytes port.coding })
    else (if is_set_lines setup then with_length 0 setup decision.Status else decision.Stall))

abbrev pub decided : ℕ → Port → Setup → Decision
decided interface port setup = if is_mine interface setup then listed port setup else decision.Stall

-- SET_CONTROL_LINE_STATE: bit 0 of wValue is DTR, bit 1 RTS (6.3.12, table 18)
abbrev pub sets_lines : ℕ → Setup → Bool
sets_lines interface setup = is_mine interface setup && (is_set_lines setup && (setup.length == 0))

abbrev pub after_setup : ℕ → Port → Setup → Port
after_setup interface port setup =
    if sets_lines interface setup
    then record port { dtr = setup.value % 2; rts = (setup.value / 2) % 2 }
    else port

-- the bytes of SET_LINE_CODING: whether they are taken, and what they set
abbrev pub accepts : List ℕ → Bool
accepts bytes = are_coding bytes

abbrev pub after_data : Port → List ℕ → Port
after_data port bytes = if accepts bytes then record port { coding = coding_of bytes } else port

-- What it learns of its pipes.

-- the size of the packets of its data pipes
abbrev pub data_packet : ℕ
data_packet = 64

-- whether the host can't tell the end of a transfer of so many bytes: its packets are whole, and there is one
abbrev pub is_whole : ℕ → Bool
is_whole bytes = not (bytes == 0) && (bytes % data_packet == 0)

abbrev pub after_ended : Port → ℕ → ℕ → Port
after_ended port pipe bytes = if pipe == data_in then record port { is_open_ended = is_whole bytes } else port

-- Its work.

-- an empty packet ends a transfer whose end the host can't tell, where nothing more is queued (USB 2.0, 5.8.3)
abbrev pub owes_empty : Port → Own → Bool
owes_empty port own = port.is_open_ended && ((held_at own data_in == 0) && is_rest (phase_at own data_in))

abbrev pub with_end : Port → Own → Own
with_end port own = if owes_empty port own then started own data_in else own

abbrev pub pipes_after_work : Port → Own → Own
pipes_after_work port own = with_end port (with_armed own)

abbrev pub after_work : Port → Port
after_work port = record port { is_open_ended = false }

-- Its calls.

-- the notification SERIAL_STATE with these bits (6.5.4)
abbrev pub notification : ℕ → ℕ → List ℕ
notification interface bits =
    0xa1 ∷ 0x20 ∷ 0 ∷ 0 ∷ interface ∷ 0 ∷ 2 ∷ 0 ∷ bits % 256 ∷ bits / 256 ∷ []

abbrev pub line_reply : Port → Reply
line_reply port = reply.LineIs port.coding.rate port.coding.stop port.coding.parity port.coding.bits port.dtr port.rts

-- the most bytes that one call reads, whatever it asks for
abbrev pub most_read : ℕ
most_read = 1024

abbrev pub read_size : ℕ → ℕ
read_size most = min most most_read

abbrev pub open_reply : Port → Own → CdcDeviceCall → Reply
open_reply port own (Write bytes) = reply.Took (taken_of own data_in bytes.items)
open_reply port own (Read most) = reply.Got (record { items = given own (read_size most) })
open_reply port own Flush = start_reply (phase_at own data_in)
open_reply port own Avail = reply.Held (held_at own data_out)
open_reply port own Line = line_reply port
open_reply port own (Notify bits) = start_reply (phase_at own notices)

abbrev pub call_reply : Port → Own → CdcDeviceCall → Reply
call_reply port own call = if is_shut own then reply.Closed else open_reply port own call

abbrev pub with_notice : ℕ → ℕ → Own → Own
with_notice interface bits own =
    if is_rest (phase_at own notices) then started (written own notices (notification interface bits)) notices else own

abbrev pub open_after_call : ℕ → Own → CdcDeviceCall → Own
open_after_call interface own (Write bytes) = written own data_in bytes.items
open_after_call interface own (Read most) = read own (read_size most)
open_after_call interface own Flush = with_started own data_in
open_after_call interface own Avail = own
open_after_call interface own Line = own
open_after_call interface own (Notify bits) = with_notice interface bits own

abbrev pub pipes_after_call : ℕ → Own → CdcDeviceCall → Own
pipes_after_call interface own call = if is_shut own then own else open_after_call interface own call

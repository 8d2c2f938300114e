-- Schedules of a whole device with a serial port, with their answers, worked by hand after USB 2.0, chapters 8 and 9, and CDC PSTN
-- 1.2, 6.3.
use Rattle.std.specs.Prelude.{◌≡◌, ℕ, List, [], ◌∷◌, ◌++◌, true, map, replicate, None}
use Rattle.usb_packet.specs.declared.bus.Toggle.{Toggle}
use Rattle.usb_packet.specs.declared.bus.Toggle.TheVariants.{D0, D1}
use Rattle.usb_packet.specs.declared.bus.Owner.TheVariants as owner
use Rattle.usb_packet.specs.declared.bus.BusEvent.TheVariants as event
use Rattle.usb_packet.specs.declared.bus.BusAnswer.TheVariants as answers
use Rattle.usb_descriptor.specs.Set.{Set}
use Rattle.usb_pipe.specs.declared.call.CdcDeviceCall.{CdcDeviceCall}
use Rattle.usb_pipe.specs.declared.call.CdcDeviceCall.TheVariants.{Write, Read, Flush, Avail, Line, Notify}
use Rattle.usb_pipe.specs.declared.call.HidDeviceCall.TheVariants.{Take}
use Rattle.usb_pipe.specs.declared.call.MscDeviceCall.TheVariants.{Eject}
use Rattle.usb_pipe.specs.declared.call.MidiCall.TheVariants.{Recv}
use Rattle.usb_pipe.specs.declared.reply.Reply.{Reply}
use Rattle.usb_pipe.specs.declared.reply.Reply.TheVariants as reply
use Rattle.device_line.specs.declared.line.DevLine.{DevLine}
use Rattle.device_line.specs.declared.line.DevLine.TheVariants.{Bus, Irq, Task, Call}
use Rattle.device_line.specs.declared.call.DevCall.{DevCall}
use Rattle.device_line.specs.declared.call.DevCall.TheVariants as call
use Rattle.device_line.specs.declared.line.Answer.{Answer}
use Rattle.device_line.specs.declared.line.Answer.TheVariants as answer
use Rattle.device_owners.specs.Device.{Device, Machinery, start}
use Rattle.device_owners.specs.Lines.{whole, line_answer, after_line, part}
use Rattle.device_world.specs.World.{world_of}

abbrev pub device : List ℕ
device = 0x12 ∷ 0x01 ∷ 0x00 ∷ 0x02 ∷ 0x00 ∷ 0x00 ∷ 0x00 ∷ 0x40 ∷ 0xfe ∷ 0xca ∷ 0x01 ∷ 0x40 ∷ 0x00 ∷ 0x01 ∷ 0x00 ∷ 0x00 ∷ 0x00 ∷ 0x01 ∷ []

-- a serial port: data interface 0 with the endpoints 01 and 82, and communications interface 1 with 83, whose union descriptor
-- names interface 0 (CDC 1.2, 5.2.3.2)
abbrev pub serial : Set
serial = record {
  device = device;
  config =
      9 ∷ 2 ∷ 53 ∷ 0 ∷ 2 ∷ 1 ∷ 0 ∷ 128 ∷ 50
      ∷ 9 ∷ 4 ∷ 0 ∷ 0 ∷ 2 ∷ 10 ∷ 0 ∷ 0 ∷ 0 ∷ 7 ∷ 5 ∷ 0x01 ∷ 2 ∷ 64 ∷ 0 ∷ 0 ∷ 7 ∷ 5 ∷ 0x82 ∷ 2 ∷ 64 ∷ 0 ∷ 0
      ∷ 9 ∷ 4 ∷ 1 ∷ 0 ∷ 1 ∷ 2 ∷ 2 ∷ 0 ∷ 0 ∷ 5 ∷ 36 ∷ 6 ∷ 1 ∷ 0 ∷ 7 ∷ 5 ∷ 0x83 ∷ 3 ∷ 16 ∷ 0 ∷ 10 ∷ [];
  strings = [];
  report = None;
}

-- a device of one interface of its vendor's, and no endpoint but 0
abbrev pub plain : Set
plain = record {
  device = device;
  config = 9 ∷ 2 ∷ 18 ∷ 0 ∷ 1 ∷ 1 ∷ 0 ∷ 128 ∷ 50 ∷ 9 ∷ 4 ∷ 0 ∷ 0 ∷ 0 ∷ 0xff ∷ 0 ∷ 0 ∷ 0 ∷ [];
  strings = [];
  report = None;
}

-- a line of a schedule, and its answer
abbrev pub Turns : Type 0
Turns = List (DevLine × Answer)

abbrev pub answers_from : {S : Type 0} → Machinery S → Device S → List DevLine → List Answer
answers_from m d [] = []
answers_from m d (line ∷ lines) = line_answer m d line ∷ answers_from m (after_line m d line) lines

abbrev pub IsAnswered : Set → Turns → Type 0
IsAnswered set turns =
    let world = world_of set None in
    answers_from (whole world) (start world) (map (λ turn. turn.0) turns) ≡ map (λ turn. turn.1) turns

abbrev pub done : Answer
done = answer.Bus answers.Done

abbrev pub ack : Answer
ack = answer.Bus answers.Ack

abbrev pub nak : Answer
nak = answer.Bus answers.Nak

abbrev pub stall : Answer
stall = answer.Bus answers.Stall

abbrev pub sent : Toggle → List ℕ → Answer
sent toggle bytes = answer.Bus (answers.Data toggle bytes)

abbrev pub in_token : ℕ → DevLine
in_token ep = Bus (event.In 0 ep true)

abbrev pub out_packet : ℕ → Toggle → List ℕ → DevLine
out_packet ep toggle bytes = Bus (event.Out 0 ep toggle bytes true)

-- a handler run and a task run, and the handler run that loads what the task left
abbrev pub worked : Turns
worked = (Irq, done) ∷ (Task, done) ∷ []

abbrev pub served : Turns
served = worked ++ (Irq, done) ∷ []

-- a request: acknowledged and served; passed, with its status stage (8.5.3); refused (9.2.7)
abbrev pub asked : List ℕ → Turns
asked request = (Bus (event.Setup 0 request true), ack) ∷ served

abbrev pub passed : List ℕ → Turns
passed request = asked request ++ (in_token 0, sent D1 []) ∷ worked

abbrev pub refused : List ℕ → Turns
refused request = asked request ++ (in_token 0, stall) ∷ []

-- one with bytes from the host: they are taken, or refused
abbrev pub given : List ℕ → List ℕ → Turns
given request bytes = asked request ++ (out_packet 0 D1 bytes, ack) ∷ served ++ (in_token 0, sent D1 []) ∷ worked

abbrev pub given_in_vain : List ℕ → List ℕ → Turns
given_in_vain request bytes = asked request ++ (out_packet 0 D1 bytes, ack) ∷ served ++ (in_token 0, stall) ∷ []

abbrev pub set_configuration : ℕ → List ℕ
set_configuration n = 0 ∷ 9 ∷ n ∷ 0 ∷ 0 ∷ 0 ∷ 0 ∷ 0 ∷ []

-- SET_LINE_CODING of so many bytes, and SET_CONTROL_LINE_STATE, to an interface (CDC PSTN 1.2, table 13)
abbrev pub set_coding : ℕ → ℕ → List ℕ
set_coding interface length = 0x21 ∷ 0x20 ∷ 0 ∷ 0 ∷ interface ∷ 0 ∷ length ∷ 0 ∷ []

abbrev pub set_lines : ℕ → ℕ → List ℕ
set_lines interface lines = 0x21 ∷ 0x22 ∷ lines ∷ 0 ∷ interface ∷ 0 ∷ 0 ∷ 0 ∷ []

-- GET_LINE_CODING of an interface (table 13)
abbrev pub get_coding : ℕ → List ℕ
get_coding interface = 0xa1 ∷ 0x21 ∷ 0 ∷ 0 ∷ interface ∷ 0 ∷ 7 ∷ 0 ∷ []

-- SET_FEATURE(ENDPOINT_HALT) and CLEAR_FEATURE(ENDPOINT_HALT) of the endpoint at an address (USB 2.0, 9.4.9 and 9.4.1)
abbrev pub halt : ℕ → List ℕ
halt address = 2 ∷ 3 ∷ 0 ∷ 0 ∷ address ∷ 0 ∷ 0 ∷ 0 ∷ []

abbrev pub clear : ℕ → List ℕ
clear address = 2 ∷ 1 ∷ 0 ∷ 0 ∷ address ∷ 0 ∷ 0 ∷ 0 ∷ []

-- a request whose bytes for the host are one packet, with its status stage
abbrev pub read_back : List ℕ → List ℕ → Turns
read_back request bytes = asked request ++ (in_token 0, sent D1 bytes) ∷ (out_packet 0 D1 [], ack) ∷ worked

-- 115,200 bits in a second, one stop bit, no parity, 8 data bits
abbrev pub fast : List ℕ
fast = 0 ∷ 0xc2 ∷ 1 ∷ 0 ∷ 0 ∷ 0 ∷ 8 ∷ []

-- 9,600 bits in a second, one stop bit, no parity, 8 data bits
abbrev pub slow : List ℕ
slow = 0x80 ∷ 0x25 ∷ 0 ∷ 0 ∷ 0 ∷ 0 ∷ 8 ∷ []

-- the same without its last byte
abbrev pub six_bytes : List ℕ
six_bytes = 0x80 ∷ 0x25 ∷ 0 ∷ 0 ∷ 0 ∷ 0 ∷ []

abbrev pub calls : DevCall → Reply → Turns
calls c r = (Call c, answer.Reply r) ∷ []

abbrev pub calls_serial : CdcDeviceCall → Reply → Turns
calls_serial c r = calls (call.Cdc c) r

-- what `cdc line` tells: the rate and the control lines, with one stop bit, no parity and 8 data bits
abbrev pub tells_line : ℕ → ℕ → ℕ → Turns
tells_line rate dtr rts = calls_serial Line (reply.LineIs rate 0 0 8 dtr rts)

-- a bus reset that a handler run serves, and a session
abbrev pub session : Turns
session = (Bus event.Reset, done) ∷ (Irq, done) ∷ passed (set_configuration 1)

pub record SerialRequests : Type 0 where
  -- before a session and after it nothing is told; what was set in one is gone in the next
  pub line : IsAnswered serial
      (calls_serial Line reply.Closed ++ session ++ tells_line 115200 0 0 ++ given (set_coding 1 7) slow ++ tells_line 9600 0 0
      ++ passed (set_configuration 0) ++ calls_serial Line reply.Closed ++ passed (set_configuration 1) ++ tells_line 115200 0 0)
  -- six bytes are no coding, whether the host says so before or sends fewer than it said
  pub six : IsAnswered serial
      (session ++ refused (set_coding 1 6) ++ given_in_vain (set_coding 1 7) six_bytes ++ tells_line 115200 0 0)
  -- DTR is bit 0, RTS bit 1, and the data interface takes no request; a reset ends the session
  pub lines : IsAnswered serial
      (session ++ passed (set_lines 1 1) ++ tells_line 115200 1 0 ++ refused (set_lines 0 2) ++ tells_line 115200 1 0
      ++ (Bus event.Reset, done) ∷ (Irq, done) ∷ calls_serial Line reply.Closed)

-- The same requests, and where they end.
pub record SerialRequestsEnd : Type 0 where
  -- GET_LINE_CODING gives what holds
  pub read : IsAnswered serial
      (session ++ read_back (get_coding 1) fast ++ given (set_coding 1 7) slow ++ read_back (get_coding 1) slow)
  -- the control lines are off again in the next session
  pub lines_end : IsAnswered serial
      (session ++ passed (set_lines 1 3) ++ tells_line 115200 1 1 ++ passed (set_configuration 0) ++ passed (set_configuration 1) ++ tells_line 115200 0 0)
  -- the low byte of wIndex names the interface (USB 2.0, 9.3.4)
  pub low_byte : IsAnswered serial
      (session ++ passed (0x21 ∷ 0x22 ∷ 1 ∷ 0 ∷ 1 ∷ 5 ∷ 0 ∷ 0 ∷ []) ++ tells_line 115200 1 0)
  -- a SETUP ends the transfer before it (USB 2.0, 8.5.3): its bytes aren't taken any more
  pub overtaken : IsAnswered serial
      (session ++ asked (set_coding 1 7) ++ passed (set_lines 1 3) ++ (out_packet 0 D1 slow, nak) ∷ tells_line 115200 1 1 ++ read_back (get_coding 1) fast)

abbrev pub full_packet : List ℕ
full_packet = replicate 64 7

pub record SerialTransfers : Type 0 where
  -- a packet of the host's is held until it is read
  pub reads : IsAnswered serial
      (session ++ (out_packet 1 D0 (7 ∷ 8 ∷ []), ack) ∷ worked ++ calls_serial Avail (reply.Held 2)
      ++ calls_serial (Read 1) (reply.Got (record { items = 7 ∷ [] })) ++ calls_serial (Read 9) (reply.Got (record { items = 8 ∷ [] })))
  -- what is written goes out once it is flushed and a handler run has loaded it
  pub writes : IsAnswered serial
      (session ++ calls_serial (Write (record { items = 97 ∷ 98 ∷ [] })) (reply.Took 2) ++ (Irq, done) ∷ (in_token 2, nak)
      ∷ calls_serial Flush reply.Done ++ (Irq, done) ∷ (in_token 2, sent D0 (97 ∷ 98 ∷ [])) ∷ (in_token 2, nak) ∷ [])
  -- an empty packet ends a full one, once (USB 2.0, 5.8.3)
  pub ends : IsAnswered serial
      (session ++ calls_serial (Write (record { items = full_packet })) (reply.Took 64) ++ calls_serial Flush reply.Done ++ (Irq, done) ∷ (in_token 2, sent D0 full_packet)
      ∷ served ++ (in_token 2, sent D1 []) ∷ served ++ (in_token 2, nak) ∷ [])
  -- SERIAL_STATE of interface 1 (6.5.4) goes out on the notification endpoint
  pub notifies : IsAnswered serial
      (session ++ calls_serial (Notify 3) reply.Done ++ (Irq, done) ∷ (in_token 3, sent D0 (0xa1 ∷ 0x20 ∷ 0 ∷ 0 ∷ 1 ∷ 0 ∷ 2 ∷ 0 ∷ 3 ∷ 0 ∷ [])) ∷ [])

abbrev pub bytes_of : List ℕ → CdcDeviceCall
bytes_of bytes = Write (record { items = bytes })

pub record SerialPipes : Type 0 where
  -- a hundred bytes are two packets; what is written behind them waits for the next flush
  pub queues : IsAnswered serial
      (session ++ calls_serial (bytes_of (replicate 100 7)) (reply.Took 100) ++ calls_serial Flush reply.Done ++ calls_serial (bytes_of (8 ∷ [])) (reply.Took 1)
      ++ (Irq, done) ∷ (in_token 2, sent D0 full_packet) ∷ (in_token 2, sent D1 (replicate 36 7)) ∷ served ++ (in_token 2, nak)
      ∷ calls_serial Flush reply.Done ++ (Irq, done) ∷ (in_token 2, sent D0 (8 ∷ [])) ∷ [])
  -- a halted endpoint sends nothing and starts nothing; its bytes wait (USB 2.0, 8.4.5 and 9.4.5)
  pub halts : IsAnswered serial
      (session ++ calls_serial (bytes_of (97 ∷ [])) (reply.Took 1) ++ passed (halt 0x82) ++ (in_token 2, stall) ∷ calls_serial Flush reply.Halted
      ++ passed (clear 0x82) ++ calls_serial Flush reply.Done ++ (Irq, done) ∷ (in_token 2, sent D0 (97 ∷ [])) ∷ [])
  -- the end of a halt drops the transfer that runs, and keeps what came; DATA0 is next (USB 2.0, 9.4.5)
  pub cleared : IsAnswered serial
      (session ++ calls_serial (bytes_of (97 ∷ 98 ∷ [])) (reply.Took 2) ++ calls_serial Flush reply.Done ++ (out_packet 1 D0 (7 ∷ []), ack) ∷ worked
      ++ passed (clear 0x82) ++ passed (clear 1) ++ (in_token 2, nak) ∷ (out_packet 1 D0 (8 ∷ []), ack) ∷ worked ++ calls_serial (Read 9) (reply.Got (record { items = 7 ∷ 8 ∷ [] }))
      ++ calls_serial (bytes_of (99 ∷ [])) (reply.Took 1) ++ calls_serial Flush reply.Done ++ (Irq, done) ∷ (in_token 2, sent D0 (99 ∷ [])) ∷ [])

-- Whose lines are whose: the endpoints 01, 82 and 83 are the serial port's, and what the configuration doesn't have is the core's.

abbrev pub mixed : List DevLine
mixed =
    Bus event.Reset ∷ Irq ∷ Bus (event.Setup 0 (set_configuration 1) true) ∷ in_token 0 ∷ Task ∷ out_packet 1 D0 [] ∷ out_packet 2 D0 [] ∷ in_token 1 ∷ in_token 2 ∷ in_token 3
    ∷ Call call.State ∷ Call (call.Cdc Line) ∷ Call (call.Hid Take) ∷ []

abbrev pub common : List DevLine
common = Bus event.Reset ∷ Irq ∷ Bus (event.Setup 0 (set_configuration 1) true) ∷ in_token 0 ∷ Task ∷ []

pub record SerialParts : Type 0 where
  pub serials : part serial owner.Cdc mixed ≡ common ++ out_packet 1 D0 [] ∷ in_token 2 ∷ in_token 3 ∷ Call (call.Cdc Line) ∷ []
  pub cores : part serial owner.Core mixed ≡ common ++ out_packet 2 D0 [] ∷ in_token 1 ∷ Call call.State ∷ []
  pub others : part serial owner.Hid mixed ≡ common ++ Call (call.Hid Take) ∷ []

-- a class that isn't there answers no call and no request
pub record OthersAreClosed : Type 0 where
  pub calls_of_others : IsAnswered serial
      (session ++ calls (call.Hid Take) reply.Closed ++ calls (call.Msc Eject) reply.Closed ++ calls (call.Midi (Recv 1)) reply.Closed
      ++ calls call.State (reply.Core 0 1))
  pub no_serial : IsAnswered plain
      (session ++ calls_serial Line reply.Closed ++ calls_serial (Write (record { items = 1 ∷ [] })) reply.Closed ++ refused (set_coding 0 7))

-- Schedules of endpoint 0 with their answers, worked by hand after USB 2.0, chapters 8 and 9.
use Rattle.std.specs.Prelude.{◌≡◌, ℕ, List, [], ◌∷◌, ◌++◌, Bool, true, false, map, None}
use Rattle.usb_packet.specs.declared.bus.Toggle.{Toggle}
use Rattle.usb_packet.specs.declared.bus.Toggle.TheVariants.{D0, D1}
use Rattle.usb_packet.specs.declared.bus.BusEvent.TheVariants as event
use Rattle.usb_packet.specs.declared.bus.BusAnswer.TheVariants as answers
use Rattle.usb_pipe.specs.declared.reply.Reply.TheVariants as reply
use Rattle.usb_descriptor.specs.Set.{Set}
use Rattle.device_line.specs.declared.line.DevLine.{DevLine}
use Rattle.device_line.specs.declared.line.DevLine.TheVariants.{Bus, Irq, Task, Call}
use Rattle.device_line.specs.declared.call.DevCall.TheVariants.{State}
use Rattle.device_line.specs.declared.line.Answer.{Answer}
use Rattle.device_line.specs.declared.line.Answer.TheVariants as answer
use Rattle.usb_packet.specs.declared.bus.Owner.TheVariants.{Core}
use Rattle.usb_descriptor.specs.declared.endpoint.EpKind.TheVariants.{Bulk}
use Rattle.device_machine.specs.Packets.{numbers_from}
use Rattle.device_machine.specs.Pipes.{Pipes, pipes_unopened, session_pipes, with_halt, halted_addresses}
use Rattle.device_schedule.specs.Schedule.{answers as schedule_answers}
use Rattle.device_laws.specs.World.{IsOfSet, bare}
use Rattle.device_laws.specs.Reading.{IsRead}

-- A device of one interface and no endpoint but 0, with power from the bus
abbrev pub device : List ℕ
device = 0x12 ∷ 0x01 ∷ 0x00 ∷ 0x02 ∷ 0x00 ∷ 0x00 ∷ 0x00 ∷ 0x40 ∷ 0xfe ∷ 0xca ∷ 0x01 ∷ 0x40 ∷ 0x00 ∷ 0x01 ∷ 0x00 ∷ 0x00 ∷ 0x00 ∷ 0x01 ∷ []

abbrev pub plain : Set
plain = record {
  device = device;
  config = 0x09 ∷ 0x02 ∷ 0x12 ∷ 0x00 ∷ 0x01 ∷ 0x01 ∷ 0x00 ∷ 0x80 ∷ 0x32 ∷ 0x09 ∷ 0x04 ∷ 0x00 ∷ 0x00 ∷ 0x00 ∷ 0x00 ∷ 0xff ∷ 0x00 ∷ 0x00 ∷ 0x00 ∷ [];
  strings = [];
  report = None;
}

-- a configuration of 64 bytes with the number 3 and its own power: interface 0 with the interrupt endpoint 81, and interface
-- 1 with the bulk endpoint 0f of 16 bytes and a descriptor of 23 bytes of its own
abbrev pub full_config : List ℕ
full_config =
    0x09 ∷ 0x02 ∷ 0x40 ∷ 0x00 ∷ 0x02 ∷ 0x03 ∷ 0x00 ∷ 0xc0 ∷ 0x32 ∷ 0x09 ∷ 0x04 ∷ 0x00 ∷ 0x00 ∷ 0x01 ∷ 0xff ∷ 0x00 ∷ 0x00 ∷ 0x00
    ∷ 0x07 ∷ 0x05 ∷ 0x81 ∷ 0x03 ∷ 0x08 ∷ 0x00 ∷ 0x0a ∷ 0x09 ∷ 0x04 ∷ 0x01 ∷ 0x00 ∷ 0x01 ∷ 0xff ∷ 0x00 ∷ 0x00 ∷ 0x00
    ∷ 0x07 ∷ 0x05 ∷ 0x0f ∷ 0x02 ∷ 0x10 ∷ 0x00 ∷ 0x00
    ∷ 0x17 ∷ 0x24 ∷ 3 ∷ 4 ∷ 5 ∷ 6 ∷ 7 ∷ 8 ∷ 9 ∷ 10 ∷ 11 ∷ 12 ∷ 13 ∷ 14 ∷ 15 ∷ 16 ∷ 17 ∷ 18 ∷ 19 ∷ 20 ∷ 21 ∷ 22 ∷ 23 ∷ []

-- with string 1, the letter A
abbrev pub powered : Set
powered = record {
  device = device;
  config = full_config;
  strings = record { index = 1; bytes = record { items = 4 ∷ 3 ∷ 0x41 ∷ 0 ∷ [] } } ∷ [];
  report = None;
}

-- a line of a schedule, and its answer. No class stands behind these devices
abbrev pub Turns : Type 0
Turns = List (DevLine × Answer)

abbrev pub IsAnswered : Set → Turns → Type 0
IsAnswered set turns = schedule_answers (bare set) (map (λ turn. turn.0) turns) ≡ map (λ turn. turn.1) turns

abbrev pub done : Answer
done = answer.Bus answers.Done

abbrev pub ack : Answer
ack = answer.Bus answers.Ack

abbrev pub nak : Answer
nak = answer.Bus answers.Nak

abbrev pub none : Answer
none = answer.Bus answers.NoAnswer

abbrev pub stall : Answer
stall = answer.Bus answers.Stall

abbrev pub data1 : List ℕ → Answer
data1 bytes = answer.Bus (answers.Data D1 bytes)

abbrev pub data0 : List ℕ → Answer
data0 bytes = answer.Bus (answers.Data D0 bytes)

abbrev pub setup : ℕ → List ℕ → DevLine
setup addr bytes = Bus (event.Setup addr bytes true)

-- an IN token on endpoint 0, and whether the host acknowledges the data
abbrev pub in_token : ℕ → Bool → DevLine
in_token addr acknowledged = Bus (event.In addr 0 acknowledged)

abbrev pub out_packet : ℕ → Toggle → List ℕ → DevLine
out_packet addr toggle bytes = Bus (event.Out addr 0 toggle bytes true)

-- and on others
abbrev pub other_in : ℕ → DevLine
other_in ep = Bus (event.In 0 ep true)

abbrev pub other_out : ℕ → List ℕ → DevLine
other_out ep bytes = Bus (event.Out 0 ep D0 bytes true)

-- a reset that a handler run serves
abbrev pub reset : Turns
reset = (Bus event.Reset, done) ∷ (Irq, done) ∷ []

-- a handler run, a task run, and the handler run that loads what the task left
abbrev pub served : Turns
served = (Irq, done) ∷ (Task, done) ∷ (Irq, done) ∷ []

-- a handler run and a task run after a stage
abbrev pub worked : Turns
worked = (Irq, done) ∷ (Task, done) ∷ []

-- a request that is acknowledged and served
abbrev pub asked : List ℕ → Turns
asked bytes = (setup 0 bytes, ack) ∷ served

-- a request without data is passed: its status stage is an empty DATA1 packet, which the host acknowledges
abbrev pub passed : List ℕ → Turns
passed bytes = asked bytes ++ (in_token 0 true, data1 []) ∷ worked

-- one with data in a single packet, and the host's status packet
abbrev pub read : List ℕ → List ℕ → Turns
read request bytes = asked request ++ (in_token 0 true, data1 bytes) ∷ worked ++ (out_packet 0 D1 [], ack) ∷ worked

-- one that is refused, whatever is asked next (9.2.7)
abbrev pub refused : List ℕ → Turns
refused bytes = asked bytes ++ (in_token 0 true, stall) ∷ (out_packet 0 D1 [], stall) ∷ []

-- the application's question: the address, and whether a session stands
abbrev pub state : ℕ → ℕ → Turns
state addr session = (Call State, answer.Reply (reply.Core addr session)) ∷ []

abbrev pub get_device : List ℕ
get_device = 0x80 ∷ 6 ∷ 0 ∷ 1 ∷ 0 ∷ 0 ∷ 18 ∷ 0 ∷ []

abbrev pub get_config : ℕ → List ℕ
get_config length = 0x80 ∷ 6 ∷ 0 ∷ 2 ∷ 0 ∷ 0 ∷ length ∷ 0 ∷ []

-- GET_DESCRIPTOR of a type and an index
abbrev pub get_descriptor : ℕ → ℕ → List ℕ
get_descriptor kind index = 0x80 ∷ 6 ∷ index ∷ kind ∷ 0 ∷ 0 ∷ 255 ∷ 0 ∷ []

abbrev pub get_string : ℕ → List ℕ
get_string n = 0x80 ∷ 6 ∷ n ∷ 3 ∷ 9 ∷ 4 ∷ 255 ∷ 0 ∷ []

abbrev pub set_address : ℕ → List ℕ
set_address n = 0 ∷ 5 ∷ n ∷ 0 ∷ 0 ∷ 0 ∷ 0 ∷ 0 ∷ []

abbrev pub set_configuration : ℕ → List ℕ
set_configuration n = 0 ∷ 9 ∷ n ∷ 0 ∷ 0 ∷ 0 ∷ 0 ∷ 0 ∷ []

abbrev pub get_configuration : List ℕ
get_configuration = 0x80 ∷ 8 ∷ 0 ∷ 0 ∷ 0 ∷ 0 ∷ 1 ∷ 0 ∷ []

abbrev pub get_status : List ℕ
get_status = 0x80 ∷ 0 ∷ 0 ∷ 0 ∷ 0 ∷ 0 ∷ 2 ∷ 0 ∷ []

abbrev pub get_endpoint_status : ℕ → List ℕ
get_endpoint_status ep = 0x82 ∷ 0 ∷ 0 ∷ 0 ∷ ep ∷ 0 ∷ 2 ∷ 0 ∷ []

abbrev pub set_halt : ℕ → List ℕ
set_halt ep = 2 ∷ 3 ∷ 0 ∷ 0 ∷ ep ∷ 0 ∷ 0 ∷ 0 ∷ []

abbrev pub clear_halt : ℕ → List ℕ
clear_halt ep = 2 ∷ 1 ∷ 0 ∷ 0 ∷ ep ∷ 0 ∷ 0 ∷ 0 ∷ []

abbrev pub get_interface_status : ℕ → List ℕ
get_interface_status n = 0x81 ∷ 0 ∷ 0 ∷ 0 ∷ n ∷ 0 ∷ 2 ∷ 0 ∷ []

-- SET_INTERFACE of an interface to an alternate setting
abbrev pub set_interface : ℕ → ℕ → List ℕ
set_interface n setting = 1 ∷ 0x0b ∷ setting ∷ 0 ∷ n ∷ 0 ∷ 0 ∷ 0 ∷ []

abbrev pub get_interface : List ℕ
get_interface = 0x81 ∷ 0x0a ∷ 0 ∷ 0 ∷ 0 ∷ 0 ∷ 1 ∷ 0 ∷ []

-- a device that was just reset, and is asked for its descriptor, meets the conditions of the law on control reads
pub record PlainIsRead : Type 0 where
  pub of_set : IsOfSet (bare plain)
  pub read : IsRead (bare plain) (Bus event.Reset ∷ Irq ∷ []) 0 get_device device

-- Control transfers with data for the host (8.5.3)
pub record Reads : Type 0 where
  -- a device descriptor
  pub whole : IsAnswered plain (reset ++ worked ++ read get_device device)
  -- its acknowledgement is lost: the data comes no second time, since the host has it and goes on to the status stage,
  -- whose packet is acknowledged again where it comes again; there is no data behind it
  pub lost : IsAnswered plain
      (reset ++ asked get_device ++ (in_token 0 false, data1 device) ∷ worked
      ++ (out_packet 0 D1 [], ack) ∷ (out_packet 0 D1 [], ack) ∷ (in_token 0 true, nak) ∷ [])
  -- the data is lost: the same packet comes again with the same toggle, and none after it was acknowledged
  pub again : IsAnswered plain
      (reset ++ asked get_device
      ++ (in_token 0 false, data1 device) ∷ (Irq, done) ∷ (in_token 0 false, data1 device) ∷ (in_token 0 true, data1 device)
      ∷ (in_token 0 true, nak) ∷ [])
  -- a status packet waits for the last packet of data
  pub early : IsAnswered powered
      (reset ++ asked (get_config 255) ++ (out_packet 0 D1 [], nak) ∷ (in_token 0 true, data1 full_config) ∷ (out_packet 0 D1 [], nak) ∷ served
      ++ (in_token 0 true, data0 []) ∷ (out_packet 0 D1 [], ack) ∷ [])
  -- a status packet with DATA0 isn't new: it is acknowledged and dropped
  pub wrong_toggle : IsAnswered plain
      (reset ++ asked get_device ++ (in_token 0 true, data1 device) ∷ (out_packet 0 D0 [], ack) ∷ (out_packet 0 D0 [], ack) ∷ (out_packet 0 D1 [], ack)
      ∷ (out_packet 0 D0 [], nak) ∷ [])
  -- nothing is ready before a handler run, a task and the next handler run
  pub later : IsAnswered plain
      (reset ++ (setup 0 get_device, ack) ∷ (in_token 0 true, nak) ∷ (Irq, done) ∷ (in_token 0 true, nak) ∷ (Task, done) ∷ (in_token 0 true, nak)
      ∷ (Irq, done) ∷ (in_token 0 true, data1 device) ∷ [])
  -- a full packet is the last where it is all that the host asked for, else an empty one follows
  pub exact : IsAnswered powered
      (reset ++ asked (get_config 64) ++ (in_token 0 true, data1 full_config) ∷ served
      ++ (in_token 0 true, nak) ∷ (out_packet 0 D1 [], ack) ∷ [])
  pub empty : IsAnswered powered
      (reset ++ asked (get_config 255) ++ (in_token 0 true, data1 full_config) ∷ (in_token 0 true, nak) ∷ served
      ++ (in_token 0 false, data0 []) ∷ (in_token 0 true, data0 []) ∷ (out_packet 0 D1 [], ack) ∷ [])
  -- the data is cut to what the host asks for; where that is nothing, the status stage follows
  pub cut : IsAnswered powered (reset ++ read (get_config 4) (0x09 ∷ 0x02 ∷ 0x40 ∷ 0x00 ∷ []))
  pub nothing : IsAnswered powered (reset ++ passed (get_config 0))

-- SETUPs (8.5.3, 8.5.3.4 and 8.6.1)
pub record Setups : Type 0 where
  -- three lie unserved, which is this controller's limit, and the fourth isn't answered until a handler run served them
  pub fourth : IsAnswered plain
      (reset ++ (setup 0 get_device, ack) ∷ (setup 0 get_device, ack) ∷ (setup 0 get_device, ack) ∷ (setup 0 get_device, none)
      ∷ (Irq, done) ∷ (setup 0 get_device, ack) ∷ [])
  -- of these the last is served, and one that a handler run served ends one that waited for a task
  pub last : IsAnswered plain
      (reset ++ (setup 0 get_status, ack) ∷ (setup 0 get_device, ack) ∷ served ++ (in_token 0 true, data1 device) ∷ [])
  pub instead : IsAnswered plain
      (reset ++ (setup 0 get_status, ack) ∷ (Irq, done) ∷ (setup 0 get_device, ack) ∷ served ++ (in_token 0 true, data1 device) ∷ [])
  -- one that comes right after a packet of an older transfer begins with its own first packet
  pub behind : IsAnswered powered
      (reset ++ asked (get_config 255) ++ (in_token 0 true, data1 full_config) ∷ (setup 0 (get_config 255), ack) ∷ served
      ++ (in_token 0 true, data1 full_config) ∷ served ++ (in_token 0 true, data0 []) ∷ [])
  -- a packet that waits for a handler run is dropped by the one that serves a SETUP
  pub stale : IsAnswered plain
      (reset ++ (setup 0 get_status, ack) ∷ (Irq, done) ∷ (Task, done) ∷ (setup 0 get_device, ack) ∷ (Irq, done) ∷ (Irq, done) ∷ (in_token 0 true, nak)
      ∷ (Task, done) ∷ (Irq, done) ∷ (in_token 0 true, data1 device) ∷ [])
  -- a reset drops those that lie unserved, and the request that waits for a task
  pub dropped : IsAnswered plain
      (reset ++ (setup 0 get_status, ack) ∷ reset ++ (Irq, done) ∷ (Task, done) ∷ (Irq, done) ∷ (in_token 0 true, nak) ∷ (setup 0 get_device, ack)
      ∷ (setup 0 get_device, ack) ∷ (setup 0 get_device, ack) ∷ (setup 0 get_device, none) ∷ (Irq, done) ∷ reset
      ++ (Task, done) ∷ (Irq, done) ∷ (in_token 0 true, nak) ∷ [])
  -- a packet of the host that was taken belongs to its own transfer
  pub untaken : IsAnswered plain
      (reset ++ read get_device device ++ (out_packet 0 D1 [], ack) ∷ (setup 0 get_device, ack) ∷ (Irq, done) ∷ (out_packet 0 D1 [], nak) ∷ [])
  -- and what endpoint 0 had ready, its stage and its stall
  pub emptied : IsAnswered powered
      (reset ++ asked get_device ++ (in_token 0 false, data1 device) ∷ reset ++ (in_token 0 true, nak) ∷ refused (get_string 2) ++ reset
      ++ (in_token 0 true, nak) ∷ asked (get_config 255) ++ (in_token 0 true, data1 full_config) ∷ (Irq, done) ∷ reset
      ++ (Task, done) ∷ (Irq, done) ∷ (in_token 0 true, nak) ∷ [])
  -- one that is damaged or has another address isn't
  pub unheard : IsAnswered plain (reset ++ (Bus (event.Setup 0 get_device false), none) ∷ (setup 1 get_device, none) ∷ [])
  -- nothing is answered before the first reset was served, whatever runs
  pub before : IsAnswered plain
      ((setup 0 get_device, none) ∷ (Irq, done) ∷ (Task, done) ∷ (setup 0 get_device, none) ∷ (in_token 0 true, none) ∷ (Bus event.Reset, done)
      ∷ (setup 0 get_device, none) ∷ (Irq, done) ∷ (setup 0 get_device, ack) ∷ [])
  -- the next SETUP ends a stall, and its toggles begin with DATA1
  pub stalled : IsAnswered plain
      (reset ++ refused (get_string 1) ++ served ++ (in_token 0 true, stall) ∷ (setup 0 get_device, ack) ∷ (in_token 0 true, nak)
      ∷ (out_packet 0 D1 [], nak) ∷ served ++ (in_token 0 true, data1 device) ∷ [])
  -- a SETUP ends the transfer that runs: its data comes no more, and the new one begins with DATA1
  pub ended : IsAnswered powered
      (reset ++ asked (get_config 255) ++ (in_token 0 true, data1 full_config) ∷ served ++ (setup 0 get_device, ack) ∷ (in_token 0 true, nak)
      ∷ served ++ (in_token 0 true, data1 device) ∷ [])

-- Addresses (9.4.6)
pub record Addresses : Type 0 where
  -- the new one is answered to once a handler run found the status stage acknowledged, and the old one no more
  pub given : IsAnswered plain
      (reset ++ asked (set_address 5)
      ++ (in_token 0 false, data1 []) ∷ (Irq, done) ∷ (in_token 5 true, none) ∷ (in_token 0 true, data1 []) ∷ (in_token 5 true, none) ∷ state 0 0
      ++ (Irq, done) ∷ (in_token 0 true, none) ∷ (in_token 5 true, nak) ∷ state 5 0)
  -- a SETUP before that handler run waits for the next one
  pub waiting : IsAnswered plain
      (reset ++ asked (set_address 5) ++ (in_token 0 true, data1 []) ∷ (setup 0 get_device, ack) ∷ served ++ (in_token 5 true, nak) ∷ worked
      ++ (Irq, done) ∷ (in_token 5 true, data1 device) ∷ [])
  pub greatest : IsAnswered plain (reset ++ passed (set_address 127) ++ state 127 0)
  pub too_great : IsAnswered plain (reset ++ refused (set_address 128) ++ state 0 0)
  -- a reset takes it back
  pub lost : IsAnswered plain
      (reset ++ passed (set_address 5) ++ (setup 5 get_device, ack) ∷ (Bus event.Reset, done) ∷ (setup 5 get_device, none) ∷ (setup 0 get_device, none)
      ∷ (Irq, done) ∷ (setup 5 get_device, none) ∷ (setup 0 get_device, ack) ∷ [])

-- all endpoints but endpoint 0: numbers 1 to 15 in each direction (9.6.6)
abbrev pub every_address : List ℕ
every_address = numbers_from 1 15 ++ numbers_from 129 15

abbrev pub all_open : Pipes
all_open = session_pipes (map (λ a. record { addr = a; kind = Bulk; size = 64; owner = Core }) every_address) pipes_unopened

abbrev pub all_halted : Pipes → List ℕ → Pipes
all_halted pipes [] = pipes
all_halted pipes (a ∷ addresses) = all_halted (with_halt pipes a) addresses

-- Sessions and halts (9.4.1 to 9.4.10)
pub record Sessions : Type 0 where
  -- a configuration begins a session, a reset ends it, and so does configuration 0
  pub begun : IsAnswered powered
      (reset ++ read get_configuration (0 ∷ []) ++ passed (set_configuration 3) ++ state 0 1 ++ read get_configuration (3 ∷ []) ++ reset
      ++ state 0 0 ++ read get_configuration (0 ∷ []))
  pub ended : IsAnswered powered (reset ++ passed (set_configuration 3) ++ passed (set_configuration 0) ++ state 0 0)
  -- the set has no other one
  pub other : IsAnswered powered (reset ++ refused (set_configuration 1) ++ state 0 0)
  -- bit 0 of a device's status says that it has power of its own
  pub power : IsAnswered powered (reset ++ read get_status (1 ∷ 0 ∷ []))
  pub no_power : IsAnswered plain (reset ++ read get_status (0 ∷ 0 ∷ []))
  -- bit 0 of an endpoint's status says that it is halted; it needs a session, and endpoint 0 none
  pub halt : IsAnswered powered
      (reset ++ passed (set_configuration 3) ++ read (get_endpoint_status 0x81) (0 ∷ 0 ∷ []) ++ passed (set_halt 0x81)
      ++ read (get_endpoint_status 0x81) (1 ∷ 0 ∷ []) ++ passed (clear_halt 0x81) ++ read (get_endpoint_status 0x81) (0 ∷ 0 ∷ []))
  pub no_halt : IsAnswered powered
      (reset ++ read (get_endpoint_status 0) (0 ∷ 0 ∷ []) ++ passed (set_halt 0) ++ read (get_endpoint_status 0x80) (0 ∷ 0 ∷ [])
      ++ refused (get_endpoint_status 0x81) ++ refused (set_halt 0x81))
  -- a new session has none, nor has an interface whose setting is set
  pub fresh : IsAnswered powered
      (reset ++ passed (set_configuration 3) ++ passed (set_halt 0x81) ++ passed (set_configuration 3) ++ read (get_endpoint_status 0x81) (0 ∷ 0 ∷ []))
  pub set_again : IsAnswered powered
      (reset ++ passed (set_configuration 3) ++ passed (set_halt 0x81) ++ passed (set_interface 0 0) ++ read (get_endpoint_status 0x81) (0 ∷ 0 ∷ []))
  -- an interface has the one setting 0, in a session
  pub setting : IsAnswered powered (reset ++ refused get_interface ++ passed (set_configuration 3) ++ read get_interface (0 ∷ []))
  -- halts of other endpoints and of other interfaces stay
  pub halts : IsAnswered powered
      (reset ++ passed (set_configuration 3) ++ passed (set_halt 0x81) ++ passed (set_halt 0x0f) ++ read (get_endpoint_status 0x81) (1 ∷ 0 ∷ [])
      ++ read (get_endpoint_status 0x0f) (1 ∷ 0 ∷ []) ++ passed (clear_halt 0x81) ++ read (get_endpoint_status 0x81) (0 ∷ 0 ∷ [])
      ++ read (get_endpoint_status 0x0f) (1 ∷ 0 ∷ []) ++ passed (set_interface 0 0) ++ read (get_endpoint_status 0x0f) (1 ∷ 0 ∷ [])
      ++ passed (set_interface 1 0) ++ read (get_endpoint_status 0x0f) (0 ∷ 0 ∷ []))
  -- every endpoint can be halted: numbers 1 to 15 in each direction (9.6.6)
  pub each_halt : map (λ a. halted_addresses (with_halt all_open a)) every_address ≡ map (λ a. a ∷ []) every_address
  pub all_halts : halted_addresses (all_halted all_open every_address) ≡ every_address
  -- an interface's status is 0, in a session
  pub interface : IsAnswered powered
      (reset ++ refused (get_interface_status 0) ++ passed (set_configuration 3) ++ read (get_interface_status 1) (0 ∷ 0 ∷ [])
      ++ refused (get_interface_status 2))
  -- what there isn't is refused: other descriptors, endpoints, settings, features, and requests of a class
  pub strings : IsAnswered powered (reset ++ read (get_string 0) (4 ∷ 3 ∷ 9 ∷ 4 ∷ []) ++ read (get_string 1) (4 ∷ 3 ∷ 0x41 ∷ 0 ∷ []) ++ refused (get_string 2))
  pub descriptors : IsAnswered powered (reset ++ refused (get_descriptor 1 1) ++ refused (get_descriptor 2 1) ++ refused (get_descriptor 6 0))
  pub endpoints : IsAnswered powered (reset ++ passed (set_configuration 3) ++ refused (get_endpoint_status 0x01) ++ refused (set_halt 0x8f))
  pub settings : IsAnswered powered (reset ++ passed (set_configuration 3) ++ refused (set_interface 0 1) ++ refused (set_interface 2 0))
  pub features : IsAnswered powered
      (reset ++ passed (set_configuration 3) ++ refused (2 ∷ 3 ∷ 1 ∷ 0 ∷ 0x81 ∷ 0 ∷ 0 ∷ 0 ∷ []) ++ refused (0 ∷ 3 ∷ 1 ∷ 0 ∷ 0 ∷ 0 ∷ 0 ∷ 0 ∷ []))
  pub classes : IsAnswered powered (reset ++ passed (set_configuration 3) ++ refused (0x21 ∷ 0x20 ∷ 0 ∷ 0 ∷ 0 ∷ 0 ∷ 7 ∷ 0 ∷ []))
  -- endpoints other than 0 answer in a session alone, each in its direction, and none to a packet that is too long for it
  pub endpoint : IsAnswered powered
      (reset ++ (other_in 1, none) ∷ (other_out 15 (numbers_from 0 16), none) ∷ passed (set_configuration 3) ++ (other_in 1, nak) ∷ (other_in 2, none)
      ∷ (other_in 15, none) ∷ (other_out 15 (numbers_from 0 16), nak) ∷ (other_out 15 (numbers_from 0 17), none) ∷ (other_out 1 [], none)
      ∷ (Bus (event.Out 0 15 D0 [] false), none) ∷ passed (set_configuration 0) ++ (other_in 1, none) ∷ passed (set_configuration 3) ++ reset
      ++ (other_in 1, none) ∷ [])

-- What the bus sees of a device: USB 2.0, 8.4 to 8.6 and 9.1.1. `Bus` is its endpoint 0, and all that its endpoints have in
-- common; `Pipes` are the others.
use Rattle.std.specs.Prelude.{ℕ, ◌∷◌, ◌++◌, List, [], Bool, true, false, ◌==◌, ◌&&◌, not, nat_lt, length, if◌then◌else◌, Option, Some, None}
use Rattle.usb_packet.specs.declared.bus.Toggle.{Toggle}
use Rattle.usb_packet.specs.declared.bus.Toggle.TheVariants.{D0, D1}
use Rattle.usb_packet.specs.declared.bus.BusEvent.{BusEvent}
use Rattle.usb_packet.specs.declared.bus.BusEvent.TheVariants as event
use Rattle.usb_packet.specs.declared.bus.BusAnswer.{BusAnswer}
use Rattle.usb_packet.specs.declared.bus.BusAnswer.TheVariants as answers
use Rattle.usb_packet.specs.Toggles.{flipped}
use Rattle.device_machine.specs.declared.control.Stage.{Stage}
use Rattle.device_machine.specs.declared.control.Stage.TheVariants.{Sent, Came}
use Rattle.device_machine.specs.declared.control.Side.{Side}
use Rattle.device_machine.specs.declared.control.Side.TheVariants.{Off, Wait, Loaded, Last, Armed, Stall, Finished}
use Rattle.device_machine.specs.Pipes.{Pipes, out_slot, in_slot, with_out_slot, with_in_slot, out_slot_answer, in_slot_answer, out_slot_after, in_slot_after}

pub record Bus : Type 0 where
  -- a handler run has served a reset since the last one
  pub awake : Bool
  -- a reset came, and no handler run has served it
  pub reset : Bool
  -- the device address (9.4.6)
  pub address : ℕ
  -- the acknowledged SETUPs that no handler run has served, the oldest first
  pub unserved : List (List ℕ)
  -- what endpoint 0 holds ready
  pub side : Side
  -- a packet from the host was taken since the last SETUP
  pub taken : Bool
  -- the toggle of the next packet for the host
  pub toggle : Toggle

-- at the start, and what a reset leaves but for `awake`
abbrev pub unconfigured : Bool → Bus
unconfigured awake = record { awake = awake; reset = false; address = 0; unserved = []; side = Off; taken = false; toggle = D0 }

-- the most SETUPs that lie unserved
abbrev pub most_setups : ℕ
most_setups = 3

abbrev pub is_empty : {A : Type 0} → List A → Bool
is_empty [] = true
is_empty (x ∷ xs) = false

-- a device answers to its own address alone, and nothing from a reset until a handler run has served it
abbrev pub hears : Bus → ℕ → Bool
hears bus addr = bus.awake && (addr == bus.address)

-- an undamaged SETUP is acknowledged (8.5.3), unless so many lie unserved
abbrev pub hears_setup : Bus → ℕ → Bool → Bool
hears_setup bus addr ok = hears bus addr && (ok && nat_lt (length bus.unserved) most_setups)

-- and an OUT packet where it is undamaged
abbrev pub hears_packet : Bus → ℕ → Bool → Bool
hears_packet bus addr ok = hears bus addr && ok

-- whether endpoint 0 answers by what it holds: it answers NAK while a SETUP lies unserved
abbrev pub serves : Bus → ℕ → Bool
serves bus ep = (ep == 0) && is_empty bus.unserved

-- the answer to an OUT packet, by what endpoint 0 holds and whether a packet was taken since the last SETUP.
-- One that was taken comes again where its acknowledgement was lost (8.6.4): it is acknowledged and dropped.
abbrev pub again_answer : Toggle → BusAnswer
again_answer D1 = answers.Ack
again_answer D0 = answers.Nak

abbrev pub out_answer : Side → Bool → Toggle → BusAnswer
out_answer Stall taken toggle = answers.Stall
out_answer Armed taken toggle = if taken then again_answer toggle else answers.Ack
out_answer (Last packet) taken toggle = if taken then again_answer toggle else answers.Ack
out_answer Off taken toggle = if taken then again_answer toggle else answers.Nak
out_answer (Wait packet last) taken toggle = if taken then again_answer toggle else answers.Nak
out_answer (Loaded packet) taken toggle = if taken then again_answer toggle else answers.Nak
out_answer (Finished stage) taken toggle = if taken then again_answer toggle else answers.Nak

-- the answer to an IN token
abbrev pub in_answer : Side → Toggle → BusAnswer
in_answer Stall toggle = answers.Stall
in_answer (Loaded packet) toggle = answers.Data toggle packet
in_answer (Last packet) toggle = answers.Data toggle packet
in_answer Off toggle = answers.Nak
in_answer (Wait packet last) toggle = answers.Nak
in_answer Armed toggle = answers.Nak
in_answer (Finished stage) toggle = answers.Nak

-- what endpoint 0 answers
abbrev pub control_out_answer : Bus → Toggle → BusAnswer
control_out_answer bus toggle = if is_empty bus.unserved then out_answer bus.side bus.taken toggle else answers.Nak

abbrev pub control_in_answer : Bus → BusAnswer
control_in_answer bus = if is_empty bus.unserved then in_answer bus.side bus.toggle else answers.Nak

-- what the device answers
abbrev pub bus_answer : Bus → Pipes → BusEvent → BusAnswer
bus_answer bus pipes event.Reset = answers.Done
bus_answer bus pipes (event.Setup addr bytes ok) = if hears_setup bus addr ok then answers.Ack else answers.NoAnswer
bus_answer bus pipes (event.Out addr ep toggle packet ok) =
    if hears_packet bus addr ok
    then (if ep == 0 then control_out_answer bus toggle else out_slot_answer (out_slot pipes ep) (length packet))
    else answers.NoAnswer
bus_answer bus pipes (event.In addr ep ok) =
    if hears bus addr
    then (if ep == 0 then control_in_answer bus else in_slot_answer (in_slot pipes ep))
    else answers.NoAnswer

-- what a SETUP leaves of what endpoint 0 held ready
abbrev pub disturbed : Side → Side
disturbed (Loaded packet) = Off
disturbed (Last packet) = Off
disturbed Armed = Off
disturbed Stall = Off
disturbed Off = Off
disturbed (Wait packet last) = Wait packet last
disturbed (Finished stage) = Finished stage

-- a SETUP that is acknowledged. Both toggles are DATA1 from there on (8.5.3)
abbrev pub after_setup : Bus → List ℕ → Bus
after_setup bus bytes =
    record bus { unserved = bus.unserved ++ bytes ∷ []; side = disturbed bus.side; taken = false; toggle = D1 }

-- whether a packet from the host is taken: the first of its transfer, with DATA1
abbrev pub takes : Side → Bool → Toggle → Bool
takes Armed taken D1 = not taken
takes (Last packet) taken D1 = not taken
takes Armed taken D0 = false
takes (Last packet) taken D0 = false
takes Off taken toggle = false
takes (Wait packet last) taken toggle = false
takes (Loaded packet) taken toggle = false
takes Stall taken toggle = false
takes (Finished stage) taken toggle = false

abbrev pub after_out : Bus → Toggle → List ℕ → Bus
after_out bus toggle packet =
    if takes bus.side bus.taken toggle then record bus { side = Finished (Came packet); taken = true } else bus

-- a packet for the host that it acknowledged
abbrev pub after_in : Bus → Side → Bus
after_in bus (Loaded packet) = record bus { side = Finished Sent; toggle = flipped bus.toggle }
after_in bus (Last packet) = record bus { side = Armed; toggle = flipped bus.toggle }
after_in bus Off = bus
after_in bus (Wait packet last) = bus
after_in bus Armed = bus
after_in bus Stall = bus
after_in bus (Finished stage) = bus

-- endpoint 0 after a bus event
abbrev pub bus_after : Bus → BusEvent → Bus
bus_after bus event.Reset = record bus { awake = false; reset = true }
bus_after bus (event.Setup addr bytes ok) = if hears_setup bus addr ok then after_setup bus bytes else bus
bus_after bus (event.Out addr ep toggle packet ok) =
    if hears_packet bus addr ok && serves bus ep then after_out bus toggle packet else bus
bus_after bus (event.In addr ep ok) =
    if hears bus addr && (ok && serves bus ep) then after_in bus bus.side else bus

-- the other endpoints after it: a packet moves the one that it is on
abbrev pub pipes_after : Bus → Pipes → BusEvent → Pipes
pipes_after bus pipes event.Reset = pipes
pipes_after bus pipes (event.Setup addr bytes ok) = pipes
pipes_after bus pipes (event.Out addr ep toggle packet ok) =
    if hears_packet bus addr ok then with_out_slot pipes ep (out_slot_after (out_slot pipes ep) toggle packet) else pipes
pipes_after bus pipes (event.In addr ep ok) =
    if hears bus addr then with_in_slot pipes ep (in_slot_after (in_slot pipes ep) ok) else pipes

-- the finished stage that a handler run finds
abbrev pub finished_stage : Side → Option Stage
finished_stage (Finished stage) = Some stage
finished_stage Off = None
finished_stage (Wait packet last) = None
finished_stage (Loaded packet) = None
finished_stage (Last packet) = None
finished_stage Armed = None
finished_stage Stall = None

-- what it leaves
abbrev pub without_stage : Side → Side
without_stage (Finished stage) = Off
without_stage Off = Off
without_stage (Wait packet last) = Wait packet last
without_stage (Loaded packet) = Loaded packet
without_stage (Last packet) = Last packet
without_stage Armed = Armed
without_stage Stall = Stall

-- a handler run loads the packet that waits, and arms the status stage with the last packet of data (8.5.3.3)
abbrev pub loaded : Side → Side
loaded (Wait packet last) = if last then Last packet else Loaded packet
loaded Off = Off
loaded (Loaded packet) = Loaded packet
loaded (Last packet) = Last packet
loaded Armed = Armed
loaded Stall = Stall
loaded (Finished stage) = Finished stage

-- the last of a list
abbrev pub last_of : {A : Type 0} → List A → Option A
last_of [] = None
last_of (x ∷ xs) = if is_empty xs then Some x else last_of xs

-- What is seen of a device from outside: a fold over the lines of its schedule and their answers alone. It knows no packet
-- that waits, no toggle and no transfer of the device.
use Rattle.std.specs.Prelude.{◌≡◌, ◌<◌, ℕ, ◌+◌, List, [], ◌∷◌, Bool, true, false, ◌==◌, ◌&&◌, ◌||◌, nat_lt, if◌then◌else◌, Option, Some, None}
use Rattle.usb_packet.specs.declared.setup.Setup.{Setup}
use Rattle.usb_packet.specs.declared.bus.Toggle.{Toggle}
use Rattle.usb_packet.specs.declared.bus.BusEvent.{BusEvent}
use Rattle.usb_packet.specs.declared.bus.BusEvent.TheVariants as event
use Rattle.usb_packet.specs.declared.bus.BusAnswer.{BusAnswer}
use Rattle.usb_packet.specs.declared.bus.BusAnswer.TheVariants as bus_answers
use Rattle.usb_packet.specs.Setup.{fields_of}
use Rattle.usb_pipe.specs.declared.reply.Reply.TheVariants as reply
use Rattle.device_line.specs.declared.line.DevLine.{DevLine}
use Rattle.device_line.specs.declared.line.DevLine.TheVariants.{Bus, Irq, Task, Call}
use Rattle.device_line.specs.declared.call.DevCall.TheVariants.{State}
use Rattle.device_line.specs.declared.line.Answer.{Answer}
use Rattle.device_line.specs.declared.line.Answer.TheVariants as answer
use Rattle.device_owners.specs.Device.{World}
use Rattle.device_owners.specs.Lines.{answer_to}
use Rattle.device_schedule.specs.Schedule.{answers}
use Rattle.device_laws.specs.World.{core_after}

-- before the first reset; a reset came that no handler run served; a handler run served the last one
pub data Attention : Type 0 where
  Deaf : Attention
  Waiting : Attention
  Listening : Attention

pub record Seen : Type 0 where
  pub attention : Attention
  -- the device address
  pub address : ℕ
  -- how many acknowledged SETUPs no handler run has served
  pub unserved : ℕ
  -- a handler run served a SETUP that no task has taken
  pub noted : Bool
  -- the last SETUP that was acknowledged; no bytes before one
  pub request : List ℕ
  -- the address of a SET_ADDRESS whose status stage the host acknowledged since the last handler run
  pub due : Option ℕ

abbrev pub unseen : Attention → Seen
unseen attention = record { attention = attention; address = 0; unserved = 0; noted = false; request = []; due = None }

-- the address that a request sets: SET_ADDRESS is bmRequestType 0 and bRequest 5, with the address in wValue (9.4.6)
abbrev pub asked_of : Setup → Option ℕ
asked_of setup = if (setup.request_type == 0) && (setup.request == 5) then Some setup.value else None

abbrev pub asked_address : List ℕ → Option ℕ
asked_address bytes = asked_of (fields_of bytes)

-- an acknowledged SETUP
abbrev pub heard : Seen → List ℕ → BusAnswer → Seen
heard seen bytes bus_answers.Ack = record seen { unserved = seen.unserved + 1; request = bytes }
heard seen bytes bus_answers.Done = seen
heard seen bytes bus_answers.Nak = seen
heard seen bytes bus_answers.Stall = seen
heard seen bytes bus_answers.NoAnswer = seen
heard seen bytes (bus_answers.Data toggle packet) = seen

-- a packet of endpoint 0 that the host acknowledged: SET_ADDRESS has no data for it, so there it ends the status stage
abbrev pub given : Seen → BusAnswer → Seen
given seen (bus_answers.Data toggle packet) = record seen { due = asked_address seen.request }
given seen bus_answers.Ack = seen
given seen bus_answers.Done = seen
given seen bus_answers.Nak = seen
given seen bus_answers.Stall = seen
given seen bus_answers.NoAnswer = seen

abbrev pub seen_event : Seen → BusEvent → BusAnswer → Seen
seen_event seen event.Reset a = record seen { attention = Waiting }
seen_event seen (event.Setup addr bytes ok) a = heard seen bytes a
seen_event seen (event.Out addr ep toggle packet ok) a = seen
seen_event seen (event.In addr ep ok) a = if (ep == 0) && ok then given seen a else seen

-- a handler run sets the address that is due and does nothing else, or else serves all SETUPs
abbrev pub served : Seen → Option ℕ → Seen
served seen (Some n) = record seen { address = n; due = None }
served seen None = record seen { unserved = 0; noted = nat_lt 0 seen.unserved || seen.noted }

-- and one that finds a reset does that alone: the device is as new, and listens
abbrev pub seen_irq : Seen → Attention → Seen
seen_irq seen Waiting = unseen Listening
seen_irq seen Deaf = served seen seen.due
seen_irq seen Listening = served seen seen.due

-- what is seen after a line, by its answer
abbrev pub seen_line : Seen → DevLine → Answer → Seen
seen_line seen (Bus e) (answer.Bus a) = seen_event seen e a
seen_line seen (Bus e) (answer.Reply r) = seen
seen_line seen Irq a = seen_irq seen seen.attention
seen_line seen Task a = record seen { noted = false }
seen_line seen (Call call) a = seen

-- after lines and their answers
abbrev pub seen_lines : Seen → List DevLine → List Answer → Seen
seen_lines seen [] given = seen
seen_lines seen (line ∷ lines) [] = seen
seen_lines seen (line ∷ lines) (a ∷ given) = seen_lines (seen_line seen line a) lines given

-- after a schedule
abbrev pub seen_of : {S : Type 0} → World S → List DevLine → Seen
seen_of world lines = seen_lines (unseen Deaf) lines (answers world lines)

-- The address is 0 from a reset on, once a handler run served it, and changes only where a handler run finds the status
-- stage of SET_ADDRESS acknowledged. It is one that a device can have (9.4.6).
pub record IsAddress (seen : Seen) (address : ℕ) : Type 0 where
  pub same : address ≡ seen.address
  pub bounded : address < 128

abbrev pub AddressIsSeen : {S : Type 0} → World S → Type 0
AddressIsSeen world = (lines : List DevLine) → IsAddress (seen_of world lines) (core_after world lines).bus.address

-- so it is what the application is told (9.1.1)
abbrev pub AddressIsTold : {S : Type 0} → World S → Type 0
AddressIsTold world = (lines : List DevLine)
    → (session : ℕ) × (answer_to world lines (Call State) ≡ answer.Reply (reply.Core (seen_of world lines).address session))

-- whether a device listens, and to this address
abbrev pub listens : Attention → Bool
listens Deaf = false
listens Waiting = false
listens Listening = true

abbrev pub listens_to : Seen → ℕ → Bool
listens_to seen addr = listens seen.attention && (addr == seen.address)

-- a SETUP is acknowledged exactly where it is undamaged and the device's, and fewer than three lie unserved, whatever
-- endpoint 0 does (8.5.3). That limit of three is this controller's
abbrev pub SetupIsHeard : {S : Type 0} → World S → Type 0
SetupIsHeard world = (lines : List DevLine) (addr : ℕ) (bytes : List ℕ) (ok : Bool)
    → answer_to world lines (Bus (event.Setup addr bytes ok))
    ≡ answer.Bus (if listens_to (seen_of world lines) addr && (ok && nat_lt (seen_of world lines).unserved 3) then bus_answers.Ack else bus_answers.NoAnswer)

-- a packet for no device, or for one that doesn't listen, isn't answered. That a device doesn't listen from a reset until it is
-- served is this device's rule (9.2.6.2 gives it time to recover)
pub record IsIgnored {S : Type 0} (world : World S) (lines : List DevLine) (addr : ℕ) : Type 0 where
  pub setup : (bytes : List ℕ) (ok : Bool) → answer_to world lines (Bus (event.Setup addr bytes ok)) ≡ answer.Bus bus_answers.NoAnswer
  pub output : (ep : ℕ) (toggle : Toggle) (packet : List ℕ) (ok : Bool) → answer_to world lines (Bus (event.Out addr ep toggle packet ok)) ≡ answer.Bus bus_answers.NoAnswer
  pub input : (ep : ℕ) (ok : Bool) → answer_to world lines (Bus (event.In addr ep ok)) ≡ answer.Bus bus_answers.NoAnswer

abbrev pub OthersAreIgnored : {S : Type 0} → World S → Type 0
OthersAreIgnored world = (lines : List DevLine) (addr : ℕ) → listens_to (seen_of world lines) addr ≡ false → IsIgnored world lines addr

-- from an acknowledged SETUP until a handler run served it and a task took it
abbrev pub is_busy : Seen → Bool
is_busy seen = nat_lt 0 seen.unserved || seen.noted

-- endpoint 0 answers NAK (8.5.3)
pub record AnswersNak {S : Type 0} (world : World S) (lines : List DevLine) (addr : ℕ) : Type 0 where
  pub output : (toggle : Toggle) (packet : List ℕ) → answer_to world lines (Bus (event.Out addr 0 toggle packet true)) ≡ answer.Bus bus_answers.Nak
  pub input : (ok : Bool) → answer_to world lines (Bus (event.In addr 0 ok)) ≡ answer.Bus bus_answers.Nak

abbrev pub BusyAnswersNak : {S : Type 0} → World S → Type 0
BusyAnswersNak world = (lines : List DevLine) (addr : ℕ) → listens_to (seen_of world lines) addr ≡ true → is_busy (seen_of world lines) ≡ true → AnswersNak world lines addr

-- A control read from the host's side: what it takes of the data stage, whatever is lost (USB 2.0, 8.5.3 and 8.6).
use Rattle.std.specs.Prelude.{◌≡◌, ◌<◌, ◌⊎◌, ℕ, zero, suc, List, [], ◌∷◌, ◌++◌, Bool, true, false, length, take, map, replicate, None}
use Rattle.std.specs.List.{concat}
use Rattle.usb_packet.specs.declared.bus.Toggle.{Toggle}
use Rattle.usb_packet.specs.declared.bus.Toggle.TheVariants.{D0, D1}
use Rattle.usb_packet.specs.declared.bus.BusEvent.TheVariants as event
use Rattle.usb_packet.specs.declared.bus.BusAnswer.{BusAnswer}
use Rattle.usb_packet.specs.declared.bus.BusAnswer.TheVariants as bus_answers
use Rattle.usb_packet.specs.Setup.{fields_of}
use Rattle.usb_pipe.specs.declared.decision.Decision.TheVariants.{Data}
use Rattle.usb_control.specs.declared.state.Effect.TheVariants as effect
use Rattle.usb_control.specs.declared.state.Choice.TheVariants.{Own}
use Rattle.usb_control.specs.Table.{choice}
use Rattle.device_line.specs.declared.line.DevLine.{DevLine}
use Rattle.device_line.specs.declared.line.DevLine.TheVariants.{Bus, Irq, Task}
use Rattle.device_line.specs.declared.line.Answer.{Answer}
use Rattle.device_line.specs.declared.line.Answer.TheVariants as answer
use Rattle.device_machine.specs.Packets.{data_packets}
use Rattle.device_owners.specs.Device.{World, core_state}
use Rattle.device_owners.specs.Lines.{answer_to}
use Rattle.device_laws.specs.World.{core_after}
use Rattle.device_laws.specs.Seen.{seen_of}
use Rattle.device_laws.specs.Stages.{Last}

-- what becomes of an IN transaction: its data is lost; the host has it and its acknowledgement is lost; both come through
pub data Fate : Type 0 where
  DataLost : Fate
  AckLost : Fate
  Whole : Fate

-- what happens after the SETUP: an IN token on endpoint 0, a handler run, a task run
pub data Step : Type 0 where
  Token : (addr : ℕ) (fate : Fate) → Step
  Handler : Step
  Work : Step

-- the device sees the host's acknowledgement
abbrev pub confirmed : Fate → Bool
confirmed DataLost = false
confirmed AckLost = false
confirmed Whole = true

abbrev pub line_of : Step → DevLine
line_of (Token addr fate) = Bus (event.In addr 0 (confirmed fate))
line_of Handler = Irq
line_of Work = Task

-- a host in a data stage: the toggle that it expects, and the packets that it took
pub record Host : Type 0 where
  pub expects : Toggle
  pub took : List (List ℕ)

-- the first packet behind a SETUP is DATA1 (8.5.3)
abbrev pub at_setup : Host
at_setup = record { expects = D1; took = [] }

-- a packet with the toggle that it expects is new. The host acknowledges another one and drops it, since it has it (8.6.4)
abbrev pub takes : Host → Toggle → Toggle → List ℕ → Host
takes host D1 D1 packet = record { expects = D0; took = host.took ++ packet ∷ [] }
takes host D0 D0 packet = record { expects = D1; took = host.took ++ packet ∷ [] }
takes host D1 D0 packet = host
takes host D0 D1 packet = host

abbrev pub gets : Host → BusAnswer → Host
gets host (bus_answers.Data toggle packet) = takes host host.expects toggle packet
gets host bus_answers.Done = host
gets host bus_answers.Ack = host
gets host bus_answers.Nak = host
gets host bus_answers.Stall = host
gets host bus_answers.NoAnswer = host

abbrev pub host_token : Host → Fate → BusAnswer → Host
host_token host DataLost a = host
host_token host AckLost a = gets host a
host_token host Whole a = gets host a

abbrev pub host_step : Host → Step → Answer → Host
host_step host (Token addr fate) (answer.Bus a) = host_token host fate a
host_step host (Token addr fate) (answer.Reply r) = host
host_step host Handler a = host
host_step host Work a = host

-- what a host has after these steps, from lines and a host on
abbrev pub host_after : {S : Type 0} → World S → List DevLine → Host → List Step → Host
host_after world before host [] = host
host_after world before host (step ∷ steps) =
    host_after world (before ++ line_of step ∷ []) (host_step host step (answer_to world before (line_of step))) steps

-- packet number n of a data stage, from 0 on, has this toggle: they alternate from DATA1 on (8.5.3)
abbrev pub toggle_at : ℕ → Toggle
toggle_at zero = D1
toggle_at (suc zero) = D0
toggle_at (suc (suc n)) = toggle_at n

-- some packets are the first of others
abbrev pub IsFront : List (List ℕ) → List (List ℕ) → Type 0
IsFront few all = (rest : List (List ℕ)) × (all ≡ few ++ rest)

-- a data packet is the next one that the host lacks, with that one's toggle; or, again, the last that it took, with the toggle
-- that it had then. Else endpoint 0 isn't ready, or the token isn't for this device
abbrev pub IsDue : List (List ℕ) → List (List ℕ) → BusAnswer → Type 0
IsDue packets took (bus_answers.Data toggle packet) =
    ((toggle ≡ toggle_at (length took)) × IsFront (took ++ packet ∷ []) packets)
    ⊎ ((before : List (List ℕ)) × (took ≡ before ++ packet ∷ []) × (toggle ≡ toggle_at (length before)))
IsDue packets took bus_answers.Nak = Unit {0}
IsDue packets took bus_answers.NoAnswer = Unit {0}
IsDue packets took bus_answers.Done = ⊥
IsDue packets took bus_answers.Ack = ⊥
IsDue packets took bus_answers.Stall = ⊥

abbrev pub IsDueAnswer : List (List ℕ) → List (List ℕ) → Answer → Type 0
IsDueAnswer packets took (answer.Bus a) = IsDue packets took a
IsDueAnswer packets took (answer.Reply r) = ⊥

-- the host has all that it asked for, or got a packet that isn't full: for it the data stage is over (8.5.3.2)
abbrev pub IsOver : ℕ → List (List ℕ) → Type 0
IsOver asked [] = ⊥
IsOver asked (packet ∷ packets) = (length (concat (packet ∷ packets)) ≡ asked) ⊎ Last (λ last. length last < 64) (packet ∷ packets)

-- what a host has of a data stage of these bytes, of which it asked for so many, after these lines
pub record IsDelivered {S : Type 0} (world : World S) (bytes : List ℕ) (asked : ℕ) (lines : List DevLine) (host : Host) : Type 0 where
  -- it took the first packets, each once and in order
  pub front : IsFront host.took (data_packets bytes asked)
  -- their bytes are the first of the data, cut to what it asked for
  pub joined : (rest : List ℕ) × (take asked bytes ≡ concat host.took ++ rest)
  -- and once the stage is over they are all of it
  pub all : IsOver asked host.took → concat host.took ≡ take asked bytes
  -- whatever token comes next
  pub due : (addr : ℕ) (ok : Bool) → IsDueAnswer (data_packets bytes asked) host.took (answer_to world lines (Bus (event.In addr 0 ok)))

-- these lines and the SETUP
abbrev pub asked_lines : List DevLine → ℕ → List ℕ → List DevLine
asked_lines lines addr setup = lines ++ Bus (event.Setup addr setup true) ∷ []

-- a SETUP that a device acknowledges after these lines, and whose request gives bytes. No request before it waits for a task,
-- and no new address for a handler run
pub record IsRead {S : Type 0} (world : World S) (lines : List DevLine) (addr : ℕ) (setup bytes : List ℕ) : Type 0 where
  pub heard : answer_to world lines (Bus (event.Setup addr setup true)) ≡ answer.Bus bus_answers.Ack
  pub alone : (seen_of world lines).noted ≡ false
  pub settled : (seen_of world lines).due ≡ None
  -- also after task runs before the handler run that serves it, in which a class may halt an endpoint of its own
  pub gives : (n : ℕ) → choice world.set (core_state (core_after world (asked_lines lines addr setup ++ replicate n Task))) (fields_of setup)
      ≡ Own (Data (record { items = bytes })) effect.None
  pub some : 0 < (fields_of setup).length

-- whatever steps follow, in whatever order
abbrev pub ReadsAreDelivered : {S : Type 0} → World S → Type 0
ReadsAreDelivered world = (lines : List DevLine) (addr : ℕ) (setup bytes : List ℕ) → IsRead world lines addr setup bytes → (steps : List Step)
    → IsDelivered world bytes (fields_of setup).length (asked_lines lines addr setup ++ map line_of steps)
    (host_after world (asked_lines lines addr setup) at_setup steps)

-- a handler run, a task run, a handler run and a token whose data and acknowledgement come through, so many times
abbrev pub rounds : ℕ → ℕ → List Step
rounds addr zero = []
rounds addr (suc n) = Handler ∷ Work ∷ Handler ∷ Token addr Whole ∷ rounds addr n

-- and the device doesn't answer NAK for ever: after as many of these as there are packets the host has them all
abbrev pub ReadsEnd : {S : Type 0} → World S → Type 0
ReadsEnd world = (lines : List DevLine) (addr : ℕ) (setup bytes : List ℕ) → IsRead world lines addr setup bytes
    → (host_after world (asked_lines lines addr setup) at_setup (rounds addr (length (data_packets bytes (fields_of setup).length)))).took
    ≡ data_packets bytes (fields_of setup).length

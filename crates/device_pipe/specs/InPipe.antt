-- One IN pipe of a device, on an endpoint other than 0: USB 2.0, 5.3.2, 5.7.3, 5.8.3, 8.4.5, 8.6 and 9.4.5.
use Rattle.std.specs.Prelude.{ℕ, zero, suc, ◌-◌, ◌++◌, List, [], ◌∷◌, Bool, true, false, nat_le, length, take, drop, min, Option, Some, None, if◌then◌else◌}
use Rattle.usb_packet.specs.declared.bus.Toggle.{Toggle}
use Rattle.usb_packet.specs.declared.bus.Toggle.TheVariants.{D0}
use Rattle.usb_packet.specs.declared.bus.BusAnswer.{BusAnswer}
use Rattle.usb_packet.specs.declared.bus.BusAnswer.TheVariants as answers
use Rattle.usb_packet.specs.Toggles.{flipped}

pub data InPhase : Type 0 where
  -- no session has it open
  Closed : InPhase
  -- no transfer runs
  Rest : InPhase
  -- a transfer of the first `n` bytes of the queue runs. `left` are its packets that weren't acknowledged, the next first
  Running : (n : ℕ) → (left : List (List ℕ)) → InPhase
  -- a handler run found that a transfer of `n` bytes ended, and no task has taken its note
  Posted : (n : ℕ) → InPhase

pub record InPipe : Type 0 where
  -- the bytes that the class wrote, but for those of transfers that a handler run found to be over
  pub queue : List ℕ
  pub phase : InPhase
  -- how many packets lie ready for the bus
  pub loaded : ℕ
  -- the toggle of the next packet
  pub toggle : Toggle
  -- its endpoint is halted (9.4.5)
  pub halted : Bool

-- The packets of a transfer: each has the endpoint's size but the last one, which has the rest (5.7.3 for interrupt, 5.8.3
-- for bulk). A transfer of no bytes is one empty packet.
abbrev pub cut_within : ℕ → ℕ → List ℕ → List (List ℕ)
cut_within zero size bytes = bytes ∷ []
cut_within (suc most) size bytes =
    if nat_le (length bytes) size then bytes ∷ [] else take size bytes ∷ cut_within most size (drop size bytes)

abbrev pub cut : ℕ → List ℕ → List (List ℕ)
cut size bytes = cut_within (length bytes) size bytes

-- the packet that is sent at a token, if one is
abbrev pub next_packet : InPhase → ℕ → Option (List ℕ)
next_packet Closed loaded = None
next_packet Rest loaded = None
next_packet (Posted n) loaded = None
next_packet (Running n left) zero = None
next_packet (Running n []) (suc loaded) = None
next_packet (Running n (packet ∷ left)) (suc loaded) = Some packet

-- NAK where nothing lies ready (8.4.5)
abbrev pub sent : Toggle → Option (List ℕ) → BusAnswer
sent toggle None = answers.Nak
sent toggle (Some packet) = answers.Data toggle packet

abbrev pub is_closed : InPhase → Bool
is_closed Closed = true
is_closed Rest = false
is_closed (Running n left) = false
is_closed (Posted n) = false

-- The answer to a token: STALL from a halted endpoint (8.4.5). One that is open in no session is silent.
abbrev pub in_answer : InPipe → BusAnswer
in_answer pipe =
    if is_closed pipe.phase then answers.NoAnswer else
    (if pipe.halted then answers.Stall else sent pipe.toggle (next_packet pipe.phase pipe.loaded))

-- the packet that was sent leaves
abbrev pub without_packet : InPhase → InPhase
without_packet (Running n (packet ∷ left)) = Running n left
without_packet (Running n []) = Running n []
without_packet Closed = Closed
without_packet Rest = Rest
without_packet (Posted n) = Posted n

-- A packet that was sent and acknowledged leaves, and the toggle flips (8.6.2). Without its acknowledgement nothing
-- changes (8.6.3).
abbrev pub after_answer : InPipe → BusAnswer → InPipe
after_answer pipe (answers.Data toggle packet) =
    record pipe { phase = without_packet pipe.phase; loaded = pipe.loaded - 1; toggle = flipped pipe.toggle }
after_answer pipe answers.Done = pipe
after_answer pipe answers.Ack = pipe
after_answer pipe answers.Nak = pipe
after_answer pipe answers.Stall = pipe
after_answer pipe answers.NoAnswer = pipe

-- a token. The host acknowledges what it gets exactly where `ok`
abbrev pub after_token : InPipe → Bool → InPipe
after_token pipe ok = if ok then after_answer pipe (in_answer pipe) else pipe

-- the most packets that lie ready
abbrev pub most_loaded : ℕ
most_loaded = 2

-- a handler run that finds nothing loaded loads the next packets
abbrev pub load : ℕ → List (List ℕ) → ℕ
load zero left = min most_loaded (length left)
load (suc loaded) left = suc loaded

-- a handler run that finds no packet left takes the transfer's bytes off the queue
abbrev pub served : InPipe → InPhase → InPipe
served pipe (Running n []) = record pipe { queue = drop n pipe.queue; phase = Posted n }
served pipe (Running n (packet ∷ left)) = record pipe { loaded = load pipe.loaded (packet ∷ left) }
served pipe Closed = pipe
served pipe Rest = pipe
served pipe (Posted n) = pipe

abbrev pub after_irq : InPipe → InPipe
after_irq pipe = served pipe pipe.phase

-- the bytes of the transfer of which the class learns in this task that it ended
abbrev pub ended_at : InPhase → Option ℕ
ended_at (Posted n) = Some n
ended_at Closed = None
ended_at Rest = None
ended_at (Running n left) = None

abbrev pub ended : InPipe → Option ℕ
ended pipe = ended_at pipe.phase

-- a task takes the note
abbrev pub phase_after_task : InPhase → InPhase
phase_after_task (Posted n) = Rest
phase_after_task Closed = Closed
phase_after_task Rest = Rest
phase_after_task (Running n left) = Running n left

abbrev pub after_task : InPipe → InPipe
after_task pipe = record pipe { phase = phase_after_task pipe.phase }

-- the class starts a transfer of all that is queued, where none runs. `size` is the endpoint's
abbrev pub phase_started : ℕ → List ℕ → InPhase → InPhase
phase_started size queue Rest = Running (length queue) (cut size queue)
phase_started size queue Closed = Closed
phase_started size queue (Running n left) = Running n left
phase_started size queue (Posted n) = Posted n

abbrev pub started : ℕ → InPipe → InPipe
started size pipe = record pipe { phase = phase_started size pipe.queue pipe.phase }

-- how many bytes the queue has room for
abbrev pub room : ℕ → InPipe → ℕ
room capacity pipe = capacity - length pipe.queue

-- the class writes: as many of the bytes are queued as there is room for
abbrev pub written : ℕ → List ℕ → InPipe → InPipe
written capacity bytes pipe = record pipe { queue = pipe.queue ++ take (room capacity pipe) bytes }

-- the endpoint is halted (9.4.9)
abbrev pub halted_ : InPipe → InPipe
halted_ pipe = record pipe { halted = true }

-- no transfer runs
abbrev pub at_rest : InPhase → InPhase
at_rest Closed = Closed
at_rest Rest = Rest
at_rest (Running n left) = Rest
at_rest (Posted n) = Rest

-- the queue without the transfer that runs
abbrev pub beyond_transfer : InPhase → List ℕ → List ℕ
beyond_transfer (Running n left) queue = drop n queue
beyond_transfer Closed queue = queue
beyond_transfer Rest queue = queue
beyond_transfer (Posted n) queue = queue

-- CLEAR_FEATURE(ENDPOINT_HALT), which sets the toggle to DATA0 (9.4.5). The transfer that runs is dropped with its bytes
abbrev pub cleared : InPipe → InPipe
cleared pipe = record { queue = beyond_transfer pipe.phase pipe.queue; phase = at_rest pipe.phase; loaded = 0; toggle = D0; halted = false }

-- the class drops all that is queued, and the transfer that runs
abbrev pub dropped : InPipe → InPipe
dropped pipe = record pipe { queue = []; phase = at_rest pipe.phase; loaded = 0 }

-- a session ends. The pipe is so at the start too, and after the handler run that serves a bus reset
abbrev pub closed : InPipe
closed = record { queue = []; phase = Closed; loaded = 0; toggle = D0; halted = false }

-- a session begins (9.1.1.5)
abbrev pub opened : InPipe
opened = record { queue = []; phase = Rest; loaded = 0; toggle = D0; halted = false }

-- what the device does to an open pipe between the tokens, but for dropping bytes and clearing. `size` is the endpoint's,
-- `capacity` the most bytes that are queued
pub data InDeed : Type 0 where
  Irq : InDeed
  Task : InDeed
  Starts : InDeed
  Writes : (bytes : List ℕ) → InDeed
  Halts : InDeed

abbrev pub after_deed : ℕ → ℕ → InPipe → InDeed → InPipe
after_deed size capacity pipe Irq = after_irq pipe
after_deed size capacity pipe Task = after_task pipe
after_deed size capacity pipe Starts = started size pipe
after_deed size capacity pipe (Writes bytes) = written capacity bytes pipe
after_deed size capacity pipe Halts = halted_ pipe

-- what happens to an open pipe
pub data InEvent : Type 0 where
  -- a token. The host acknowledges what it gets exactly where `ok`
  Token : (ok : Bool) → InEvent
  Does : (deed : InDeed) → InEvent
  Clears : InEvent
  Drops : InEvent

abbrev pub after_event : ℕ → ℕ → InPipe → InEvent → InPipe
after_event size capacity pipe (Token ok) = after_token pipe ok
after_event size capacity pipe (Does deed) = after_deed size capacity pipe deed
after_event size capacity pipe Clears = cleared pipe
after_event size capacity pipe Drops = dropped pipe

abbrev pub after_events : ℕ → ℕ → InPipe → List InEvent → InPipe
after_events size capacity pipe [] = pipe
after_events size capacity pipe (event ∷ events) = after_events size capacity (after_event size capacity pipe event) events

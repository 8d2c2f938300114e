-- One OUT pipe of a device, on an endpoint other than 0: USB 2.0, 5.3.2, 8.4.5, 8.6 and 9.4.5.
use Rattle.std.specs.Prelude.{ℕ, ◌++◌, List, [], ◌∷◌, Bool, true, false, ◌&&◌, drop, if◌then◌else◌}
use Rattle.usb_packet.specs.declared.bus.Toggle.{Toggle}
use Rattle.usb_packet.specs.declared.bus.Toggle.TheVariants.{D0}
use Rattle.usb_packet.specs.declared.bus.BusAnswer.{BusAnswer}
use Rattle.usb_packet.specs.declared.bus.BusAnswer.TheVariants as answers
use Rattle.usb_packet.specs.Toggles.{flipped, same_toggle}

pub data OutPhase : Type 0 where
  -- no session has it open. Where `over`, a packet that was dropped with the pipe still lies in the receive FIFO, and the
  -- next handler run passes over it
  Closed : (over : Bool) → OutPhase
  -- no packet is taken until a task arms it
  Rest : OutPhase
  -- the next packet is taken
  Armed : OutPhase
  -- a packet was acknowledged, and no handler run has moved it
  Landed : (packet : List ℕ) → OutPhase
  -- a handler run moved it, and no task has taken its note
  Posted : OutPhase
  -- it was opened while a packet that was dropped lay in the receive FIFO; it rests from the next handler run on
  Stale : OutPhase

pub record OutPipe : Type 0 where
  pub phase : OutPhase
  -- its endpoint is halted (9.4.5)
  pub halted : Bool
  -- the toggle of the next packet
  pub toggle : Toggle
  -- the bytes that came and that the class hasn't read
  pub held : List ℕ

-- The answer to an undamaged packet: STALL from a halted endpoint, NAK from one that can't take it (8.4.5). One that is
-- open in no session is silent.
abbrev pub answer_at : OutPhase → Bool → BusAnswer
answer_at (Closed over) halted = answers.NoAnswer
answer_at Rest halted = if halted then answers.Stall else answers.Nak
answer_at Armed halted = if halted then answers.Stall else answers.Ack
answer_at (Landed packet) halted = if halted then answers.Stall else answers.Nak
answer_at Posted halted = if halted then answers.Stall else answers.Nak
answer_at Stale halted = if halted then answers.Stall else answers.Nak

abbrev pub out_answer : OutPipe → BusAnswer
out_answer pipe = answer_at pipe.phase pipe.halted

abbrev pub is_ack : BusAnswer → Bool
is_ack answers.Ack = true
is_ack answers.Done = false
is_ack answers.Nak = false
is_ack answers.Stall = false
is_ack answers.NoAnswer = false
is_ack (answers.Data toggle packet) = false

-- A packet that is acknowledged lands where its toggle is the pipe's, and that flips. One of the other toggle is the
-- packet before it, whose acknowledgement was lost (8.6.4): it is acknowledged and dropped.
abbrev pub after_packet : OutPipe → Toggle → List ℕ → OutPipe
after_packet pipe toggle packet =
    if is_ack (out_answer pipe) && same_toggle toggle pipe.toggle
    then record pipe { phase = Landed packet; toggle = flipped pipe.toggle }
    else pipe

-- the bytes of a packet that landed
abbrev pub landed : OutPhase → List ℕ
landed (Landed packet) = packet
landed (Closed over) = []
landed Rest = []
landed Armed = []
landed Posted = []
landed Stale = []

-- a handler run moves a packet that landed, and passes over one that was dropped
abbrev pub phase_after_irq : OutPhase → OutPhase
phase_after_irq (Closed over) = Closed false
phase_after_irq Rest = Rest
phase_after_irq Armed = Armed
phase_after_irq (Landed packet) = Posted
phase_after_irq Posted = Posted
phase_after_irq Stale = Rest

abbrev pub after_irq : OutPipe → OutPipe
after_irq pipe = record pipe { phase = phase_after_irq pipe.phase; held = pipe.held ++ landed pipe.phase }

-- whether the class learns in this task that a packet came
abbrev pub came_at : OutPhase → Bool
came_at Posted = true
came_at (Closed over) = false
came_at Rest = false
came_at Armed = false
came_at (Landed packet) = false
came_at Stale = false

abbrev pub came : OutPipe → Bool
came pipe = came_at pipe.phase

-- a task takes the note
abbrev pub phase_after_task : OutPhase → OutPhase
phase_after_task Posted = Rest
phase_after_task (Closed over) = Closed over
phase_after_task Rest = Rest
phase_after_task Armed = Armed
phase_after_task (Landed packet) = Landed packet
phase_after_task Stale = Stale

abbrev pub after_task : OutPipe → OutPipe
after_task pipe = record pipe { phase = phase_after_task pipe.phase }

-- the class arms the pipe, where it rests and isn't halted
abbrev pub phase_armed : OutPhase → Bool → OutPhase
phase_armed Rest halted = if halted then Rest else Armed
phase_armed (Closed over) halted = Closed over
phase_armed Armed halted = Armed
phase_armed (Landed packet) halted = Landed packet
phase_armed Posted halted = Posted
phase_armed Stale halted = Stale

abbrev pub armed : OutPipe → OutPipe
armed pipe = record pipe { phase = phase_armed pipe.phase pipe.halted }

-- the class reads the first n bytes held
abbrev pub taken : ℕ → OutPipe → OutPipe
taken n pipe = record pipe { held = drop n pipe.held }

-- the class drops what is held
abbrev pub dropped : OutPipe → OutPipe
dropped pipe = record pipe { held = [] }

-- the endpoint is halted (9.4.9). A packet that landed stays
abbrev pub halted_ : OutPipe → OutPipe
halted_ pipe = record pipe { halted = true }

-- CLEAR_FEATURE(ENDPOINT_HALT), which sets the toggle to DATA0 (9.4.5). What came stays
abbrev pub cleared : OutPipe → OutPipe
cleared pipe = record pipe { halted = false; toggle = D0 }

-- whether a packet that is dropped with the pipe lies in the receive FIFO
abbrev pub leaves_packet : OutPhase → Bool
leaves_packet (Closed over) = over
leaves_packet Rest = false
leaves_packet Armed = false
leaves_packet (Landed packet) = true
leaves_packet Posted = false
leaves_packet Stale = true

-- a session ends
abbrev pub closed : OutPipe → OutPipe
closed pipe = record { phase = Closed (leaves_packet pipe.phase); halted = false; toggle = D0; held = [] }

-- a session begins (9.1.1.5)
abbrev pub opened : OutPipe → OutPipe
opened pipe = record { phase = if leaves_packet pipe.phase then Stale else Rest; halted = false; toggle = D0; held = [] }

-- the pipe at the start, and after the handler run that serves a bus reset and empties the receive FIFO
abbrev pub unopened : OutPipe
unopened = record { phase = Closed false; halted = false; toggle = D0; held = [] }

-- what the device does to an open pipe between the packets, but for dropping bytes and clearing
pub data OutDeed : Type 0 where
  Irq : OutDeed
  Task : OutDeed
  Arms : OutDeed
  Reads : (n : ℕ) → OutDeed
  Halts : OutDeed

abbrev pub after_deed : OutPipe → OutDeed → OutPipe
after_deed pipe Irq = after_irq pipe
after_deed pipe Task = after_task pipe
after_deed pipe Arms = armed pipe
after_deed pipe (Reads n) = taken n pipe
after_deed pipe Halts = halted_ pipe

abbrev pub after_deeds : OutPipe → List OutDeed → OutPipe
after_deeds pipe [] = pipe
after_deeds pipe (deed ∷ deeds) = after_deeds (after_deed pipe deed) deeds

-- what happens to an open pipe
pub data OutEvent : Type 0 where
  -- an undamaged packet from the host
  Packet : (toggle : Toggle) → (bytes : List ℕ) → OutEvent
  Does : (deed : OutDeed) → OutEvent
  Clears : OutEvent
  Drops : OutEvent

abbrev pub after_event : OutPipe → OutEvent → OutPipe
after_event pipe (Packet toggle bytes) = after_packet pipe toggle bytes
after_event pipe (Does deed) = after_deed pipe deed
after_event pipe Clears = cleared pipe
after_event pipe Drops = dropped pipe

abbrev pub after_events : OutPipe → List OutEvent → OutPipe
after_events pipe [] = pipe
after_events pipe (event ∷ events) = after_events (after_event pipe event) events

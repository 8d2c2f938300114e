-- One OUT pipe of a host, to an endpoint other than 0: USB 2.0, 5.3.2, 8.4.5, 8.6 and 9.4.5.
use Rattle.std.specs.Prelude.{ℕ, suc, ◌-◌, ◌++◌, List, [], ◌∷◌, Bool, true, false, nat_le, length, take, drop, Option, Some, None, if◌then◌else◌}
use Rattle.usb_packet.specs.declared.bus.Toggle.{Toggle}
use Rattle.usb_packet.specs.declared.bus.Toggle.TheVariants.{D0}
use Rattle.usb_packet.specs.declared.bus.BusAnswer.{BusAnswer}
use Rattle.usb_packet.specs.declared.bus.BusAnswer.TheVariants as answers
use Rattle.usb_packet.specs.Toggles.{flipped}
use Rattle.host_pipe.specs.Tries.{Note, Went, Refused, Lost, most_tries}

-- what came of the packet that was sent, before a handler run looked
pub data OutResult : Type 0 where
  Acknowledged : OutResult
  Stalled : OutResult
  -- no answer, or one that doesn't fit
  Unheard : OutResult

pub data OutPhase : Type 0 where
  -- no session has it open
  Closed : OutPhase
  -- no packet is under way
  Rest : OutPhase
  -- a packet is sent whenever the pipe's turn comes
  Running : OutPhase
  -- it was sent, and no handler run has looked
  Landed : (result : OutResult) → OutPhase
  -- a handler run looked, and no task has taken its note
  Posted : (note : Note) → OutPhase
  -- STALL came: the endpoint is halted
  Halted : OutPhase
  -- the tries are over, or a clear didn't pass
  Dead : OutPhase
  -- a clear was accepted, and its control transfer hasn't ended
  Clearing : OutPhase

pub record OutPipe : Type 0 where
  pub phase : OutPhase
  -- of the next packet
  pub toggle : Toggle
  -- how often in a row the packet was sent without an answer
  pub tries : ℕ
  -- the bytes that the class wrote, but for those of packets that were acknowledged and those that a clear took off
  pub pending : List ℕ
  -- the packet under way, as it was at its start
  pub under_way : Option (List ℕ)
  -- an empty packet is asked for
  pub asked : Bool

-- A start.

-- the next packet: the first pending bytes, as many as the endpoint's size allows; where none is pending, the empty one that
-- was asked for
abbrev pub next_packet : ℕ → List ℕ → Bool → Option (List ℕ)
next_packet size [] asked = if asked then Some [] else None
next_packet size (byte ∷ bytes) asked = Some (take size (byte ∷ bytes))

abbrev pub begun : OutPipe → Option (List ℕ) → OutPipe
begun pipe None = pipe
begun pipe (Some packet) = record pipe { phase = Running; tries = 0; under_way = Some packet }

abbrev pub started_at : ℕ → OutPipe → OutPhase → OutPipe
started_at size pipe Rest = begun pipe (next_packet size pipe.pending pipe.asked)
started_at size pipe Closed = pipe
started_at size pipe Running = pipe
started_at size pipe (Landed result) = pipe
started_at size pipe (Posted note) = pipe
started_at size pipe Halted = pipe
started_at size pipe Dead = pipe
started_at size pipe Clearing = pipe

abbrev pub started : ℕ → OutPipe → OutPipe
started size pipe = started_at size pipe pipe.phase

-- The bus.

-- what is sent when the pipe's turn comes: the packet under way while it runs, and otherwise nothing
abbrev pub sent_at : OutPhase → Option (List ℕ) → Option (List ℕ)
sent_at Running under_way = under_way
sent_at Closed under_way = None
sent_at Rest under_way = None
sent_at (Landed result) under_way = None
sent_at (Posted note) under_way = None
sent_at Halted under_way = None
sent_at Dead under_way = None
sent_at Clearing under_way = None

abbrev pub out_sent : OutPipe → Option (List ℕ)
out_sent pipe = sent_at pipe.phase pipe.under_way

-- ACK, NAK and STALL fit a packet that was sent; any other answer counts as none. A NAK leaves the packet to be sent again
abbrev pub result_of : BusAnswer → Option OutResult
result_of answers.Ack = Some Acknowledged
result_of answers.Nak = None
result_of answers.Stall = Some Stalled
result_of answers.NoAnswer = Some Unheard
result_of answers.Done = Some Unheard
result_of (answers.Data toggle packet) = Some Unheard

-- an answer ends the row of tries
abbrev pub met : OutPipe → Option OutResult → OutPipe
met pipe None = record pipe { tries = 0 }
met pipe (Some result) = record pipe { phase = Landed result }

abbrev pub answered : OutPipe → OutPhase → BusAnswer → OutPipe
answered pipe Running reply = met pipe (result_of reply)
answered pipe Closed reply = pipe
answered pipe Rest reply = pipe
answered pipe (Landed result) reply = pipe
answered pipe (Posted note) reply = pipe
answered pipe Halted reply = pipe
answered pipe Dead reply = pipe
answered pipe Clearing reply = pipe

abbrev pub after_xact : OutPipe → BusAnswer → OutPipe
after_xact pipe reply = answered pipe pipe.phase reply

-- A handler run.

-- the bytes without those of the packet under way
abbrev pub without : Option (List ℕ) → List ℕ → List ℕ
without None pending = pending
without (Some packet) pending = drop (length packet) pending

-- the empty packet that was under way is asked for no more
abbrev pub still_asked : Option (List ℕ) → Bool → Bool
still_asked None asked = asked
still_asked (Some []) asked = false
still_asked (Some (byte ∷ bytes)) asked = asked

-- an acknowledged packet is taken off, and the toggle flips (8.6.2)
abbrev pub taken_off : OutPipe → OutPipe
taken_off pipe = record pipe {
  phase = Posted Went;
  toggle = flipped pipe.toggle;
  pending = without pipe.under_way pipe.pending;
  under_way = None;
  asked = still_asked pipe.under_way pipe.asked;
}

-- the same packet is sent again, up to three tries in a row
abbrev pub tried : OutPipe → OutPipe
tried pipe =
    if nat_le most_tries (suc pipe.tries)
    then record pipe { phase = Posted Lost; tries = suc pipe.tries }
    else record pipe { phase = Running; tries = suc pipe.tries }

abbrev pub served : OutPipe → OutPhase → OutPipe
served pipe (Landed Acknowledged) = taken_off pipe
served pipe (Landed Stalled) = record pipe { phase = Posted Refused }
served pipe (Landed Unheard) = tried pipe
served pipe Closed = pipe
served pipe Rest = pipe
served pipe Running = pipe
served pipe (Posted note) = pipe
served pipe Halted = pipe
served pipe Dead = pipe
served pipe Clearing = pipe

abbrev pub after_irq : OutPipe → OutPipe
after_irq pipe = served pipe pipe.phase

-- A task takes the note.

abbrev pub phase_noted : Note → OutPhase
phase_noted Went = Rest
phase_noted Refused = Halted
phase_noted Lost = Dead

abbrev pub phase_after_task : OutPhase → OutPhase
phase_after_task (Posted note) = phase_noted note
phase_after_task Closed = Closed
phase_after_task Rest = Rest
phase_after_task Running = Running
phase_after_task (Landed result) = Landed result
phase_after_task Halted = Halted
phase_after_task Dead = Dead
phase_after_task Clearing = Clearing

abbrev pub after_task : OutPipe → OutPipe
after_task pipe = record pipe { phase = phase_after_task pipe.phase }

-- A clear, which is CLEAR_FEATURE(ENDPOINT_HALT) on endpoint 0 (9.4.5).

-- it is accepted: the packet under way is taken off the pending bytes, and nothing is sent until its control transfer ends
abbrev pub withdrawn : OutPipe → OutPipe
withdrawn pipe = record pipe {
  phase = Clearing;
  pending = without pipe.under_way pipe.pending;
  under_way = None;
  asked = still_asked pipe.under_way pipe.asked;
}

abbrev pub cleared_at : OutPipe → OutPhase → OutPipe
cleared_at pipe Closed = pipe
cleared_at pipe Rest = withdrawn pipe
cleared_at pipe Running = withdrawn pipe
cleared_at pipe (Landed result) = withdrawn pipe
cleared_at pipe (Posted note) = withdrawn pipe
cleared_at pipe Halted = withdrawn pipe
cleared_at pipe Dead = withdrawn pipe
cleared_at pipe Clearing = pipe

abbrev pub cleared : OutPipe → OutPipe
cleared pipe = cleared_at pipe pipe.phase

-- its control transfer ends: where it passed the pipe rests with DATA0, and otherwise it is dead
abbrev pub clear_ended_at : OutPipe → Bool → OutPhase → OutPipe
clear_ended_at pipe passed Clearing = if passed then record pipe { phase = Rest; toggle = D0 } else record pipe { phase = Dead }
clear_ended_at pipe passed Closed = pipe
clear_ended_at pipe passed Rest = pipe
clear_ended_at pipe passed Running = pipe
clear_ended_at pipe passed (Landed result) = pipe
clear_ended_at pipe passed (Posted note) = pipe
clear_ended_at pipe passed Halted = pipe
clear_ended_at pipe passed Dead = pipe

abbrev pub clear_ended : OutPipe → Bool → OutPipe
clear_ended pipe passed = clear_ended_at pipe passed pipe.phase

-- The class.

-- it writes: as many of the bytes are pending as there is room for
abbrev pub written : ℕ → List ℕ → OutPipe → OutPipe
written capacity bytes pipe = record pipe { pending = pipe.pending ++ take (capacity - length pipe.pending) bytes }

-- it asks for an empty packet
abbrev pub empty_asked : OutPipe → OutPipe
empty_asked pipe = record pipe { asked = true }

-- A session.

-- a session has it open, and no clear is under way
abbrev pub is_open : OutPhase → Bool
is_open Closed = false
is_open Clearing = false
is_open Rest = true
is_open Running = true
is_open (Landed result) = true
is_open (Posted note) = true
is_open Halted = true
is_open Dead = true

abbrev pub closed : OutPipe
closed = record { phase = Closed; toggle = D0; tries = 0; pending = []; under_way = None; asked = false }

abbrev pub opened : OutPipe
opened = record closed { phase = Rest }

-- what the host does to an open pipe between the transactions, but for clearing. `size` is the endpoint's, `capacity` the
-- most bytes that are pending
pub data OutDeed : Type 0 where
  Irq : OutDeed
  Task : OutDeed
  Starts : OutDeed
  Writes : (bytes : List ℕ) → OutDeed
  Asks : OutDeed

abbrev pub after_deed : ℕ → ℕ → OutPipe → OutDeed → OutPipe
after_deed size capacity pipe Irq = after_irq pipe
after_deed size capacity pipe Task = after_task pipe
after_deed size capacity pipe Starts = started size pipe
after_deed size capacity pipe (Writes bytes) = written capacity bytes pipe
after_deed size capacity pipe Asks = empty_asked pipe

-- what happens to an open pipe
pub data OutEvent : Type 0 where
  -- its turn on the bus, and the answer
  Turn : (reply : BusAnswer) → OutEvent
  Does : (deed : OutDeed) → OutEvent
  Clears : OutEvent
  ClearEnds : (passed : Bool) → OutEvent

abbrev pub after_event : ℕ → ℕ → OutPipe → OutEvent → OutPipe
after_event size capacity pipe (Turn reply) = after_xact pipe reply
after_event size capacity pipe (Does deed) = after_deed size capacity pipe deed
after_event size capacity pipe Clears = cleared pipe
after_event size capacity pipe (ClearEnds passed) = clear_ended pipe passed

abbrev pub after_events : ℕ → ℕ → OutPipe → List OutEvent → OutPipe
after_events size capacity pipe [] = pipe
after_events size capacity pipe (event ∷ events) = after_events size capacity (after_event size capacity pipe event) events

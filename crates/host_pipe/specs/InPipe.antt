-- One IN pipe of a host, from an endpoint other than 0: USB 2.0, 5.3.2, 8.4.5, 8.6 and 9.4.5.
use Rattle.std.specs.Prelude.{ℕ, suc, ◌++◌, List, [], ◌∷◌, Bool, true, false, nat_le, nat_lt, length, drop, if◌then◌else◌}
use Rattle.usb_packet.specs.declared.bus.Toggle.{Toggle}
use Rattle.usb_packet.specs.declared.bus.Toggle.TheVariants.{D0}
use Rattle.usb_packet.specs.declared.bus.BusAnswer.{BusAnswer}
use Rattle.usb_packet.specs.declared.bus.BusAnswer.TheVariants as answers
use Rattle.usb_packet.specs.Toggles.{flipped, same_toggle}
use Rattle.host_pipe.specs.Tries.{Note, Went, Refused, Lost, most_tries}

-- what came of the token that was sent, before a handler run looked
pub data InResult : Type 0 where
  -- data with the toggle that is expected
  Came : (packet : List ℕ) → InResult
  Stalled : InResult
  -- no answer, or one that doesn't fit
  Unheard : InResult

pub data InPhase : Type 0 where
  -- no session has it open
  Closed : InPhase
  -- no token is under way
  Rest : InPhase
  -- a token is sent whenever the pipe's turn comes
  Running : InPhase
  -- it was answered, and no handler run has looked
  Landed : (result : InResult) → InPhase
  -- a handler run looked, and no task has taken its note
  Posted : (note : Note) → InPhase
  -- STALL came: the endpoint is halted
  Halted : InPhase
  -- the tries are over, or a clear didn't pass
  Dead : InPhase
  -- a clear was accepted, and its control transfer hasn't ended
  Clearing : InPhase

pub record InPipe : Type 0 where
  pub phase : InPhase
  -- the toggle that is expected
  pub toggle : Toggle
  -- how often in a row the token was sent without an answer
  pub tries : ℕ
  -- the bytes that came and that the class hasn't read
  pub held : List ℕ

-- A start.

abbrev pub started_at : InPipe → InPhase → InPipe
started_at pipe Rest = record pipe { phase = Running; tries = 0 }
started_at pipe Closed = pipe
started_at pipe Running = pipe
started_at pipe (Landed result) = pipe
started_at pipe (Posted note) = pipe
started_at pipe Halted = pipe
started_at pipe Dead = pipe
started_at pipe Clearing = pipe

abbrev pub started : InPipe → InPipe
started pipe = started_at pipe pipe.phase

-- The bus.

-- whether an IN token is sent when the pipe's turn comes
abbrev pub is_running : InPhase → Bool
is_running Running = true
is_running Closed = false
is_running Rest = false
is_running (Landed result) = false
is_running (Posted note) = false
is_running Halted = false
is_running Dead = false
is_running Clearing = false

abbrev pub in_sent : InPipe → Bool
in_sent pipe = is_running pipe.phase

-- Data with the expected toggle lands. Data with the other one is the packet before it, whose acknowledgement was lost: it is
-- acknowledged and dropped, and the token is sent again (8.6.4). Data above the endpoint's size isn't acknowledged
abbrev pub met_data : ℕ → InPipe → Toggle → List ℕ → InPipe
met_data size pipe toggle packet =
    if nat_lt size (length packet) then record pipe { phase = Landed Unheard }
    else if same_toggle toggle pipe.toggle then record pipe { phase = Landed (Came packet) }
    else record pipe { tries = 0 }

-- NAK, STALL and data fit an IN token; any other answer counts as none. An answer ends the row of tries
abbrev pub met : ℕ → InPipe → BusAnswer → InPipe
met size pipe (answers.Data toggle packet) = met_data size pipe toggle packet
met size pipe answers.Nak = record pipe { tries = 0 }
met size pipe answers.Stall = record pipe { phase = Landed Stalled }
met size pipe answers.NoAnswer = record pipe { phase = Landed Unheard }
met size pipe answers.Ack = record pipe { phase = Landed Unheard }
met size pipe answers.Done = record pipe { phase = Landed Unheard }

abbrev pub answered : ℕ → InPipe → InPhase → BusAnswer → InPipe
answered size pipe Running reply = met size pipe reply
answered size pipe Closed reply = pipe
answered size pipe Rest reply = pipe
answered size pipe (Landed result) reply = pipe
answered size pipe (Posted note) reply = pipe
answered size pipe Halted reply = pipe
answered size pipe Dead reply = pipe
answered size pipe Clearing reply = pipe

abbrev pub after_xact : ℕ → InPipe → BusAnswer → InPipe
after_xact size pipe reply = answered size pipe pipe.phase reply

-- whether the host acknowledges what it gets: data of either toggle that fits
abbrev pub acknowledges : ℕ → BusAnswer → Bool
acknowledges size (answers.Data toggle packet) = if nat_lt size (length packet) then false else true
acknowledges size answers.Nak = false
acknowledges size answers.Stall = false
acknowledges size answers.NoAnswer = false
acknowledges size answers.Ack = false
acknowledges size answers.Done = false

-- A handler run.

-- data that landed joins what is held, and the toggle flips (8.6.2)
abbrev pub taken_in : InPipe → List ℕ → InPipe
taken_in pipe packet = record pipe { phase = Posted Went; toggle = flipped pipe.toggle; held = pipe.held ++ packet }

-- the token is sent again, up to three tries in a row
abbrev pub tried : InPipe → InPipe
tried pipe =
    if nat_le most_tries (suc pipe.tries)
    then record pipe { phase = Posted Lost; tries = suc pipe.tries }
    else record pipe { phase = Running; tries = suc pipe.tries }

abbrev pub served : InPipe → InPhase → InPipe
served pipe (Landed (Came packet)) = taken_in pipe packet
served pipe (Landed Stalled) = record pipe { phase = Posted Refused }
served pipe (Landed Unheard) = tried pipe
served pipe Closed = pipe
served pipe Rest = pipe
served pipe Running = pipe
served pipe (Posted note) = pipe
served pipe Halted = pipe
served pipe Dead = pipe
served pipe Clearing = pipe

abbrev pub after_irq : InPipe → InPipe
after_irq pipe = served pipe pipe.phase

-- A task takes the note.

abbrev pub phase_noted : Note → InPhase
phase_noted Went = Rest
phase_noted Refused = Halted
phase_noted Lost = Dead

abbrev pub phase_after_task : InPhase → InPhase
phase_after_task (Posted note) = phase_noted note
phase_after_task Closed = Closed
phase_after_task Rest = Rest
phase_after_task Running = Running
phase_after_task (Landed result) = Landed result
phase_after_task Halted = Halted
phase_after_task Dead = Dead
phase_after_task Clearing = Clearing

abbrev pub after_task : InPipe → InPipe
after_task pipe = record pipe { phase = phase_after_task pipe.phase }

-- A clear, which is CLEAR_FEATURE(ENDPOINT_HALT) on endpoint 0 (9.4.5).

-- it is accepted: data that landed is dropped, and nothing is sent until its control transfer ends
abbrev pub cleared_at : InPhase → InPhase
cleared_at Closed = Closed
cleared_at Rest = Clearing
cleared_at Running = Clearing
cleared_at (Landed result) = Clearing
cleared_at (Posted note) = Clearing
cleared_at Halted = Clearing
cleared_at Dead = Clearing
cleared_at Clearing = Clearing

abbrev pub cleared : InPipe → InPipe
cleared pipe = record pipe { phase = cleared_at pipe.phase }

-- its control transfer ends: where it passed the pipe rests with DATA0, and otherwise it is dead
abbrev pub clear_ended_at : InPipe → Bool → InPhase → InPipe
clear_ended_at pipe passed Clearing = if passed then record pipe { phase = Rest; toggle = D0 } else record pipe { phase = Dead }
clear_ended_at pipe passed Closed = pipe
clear_ended_at pipe passed Rest = pipe
clear_ended_at pipe passed Running = pipe
clear_ended_at pipe passed (Landed result) = pipe
clear_ended_at pipe passed (Posted note) = pipe
clear_ended_at pipe passed Halted = pipe
clear_ended_at pipe passed Dead = pipe

abbrev pub clear_ended : InPipe → Bool → InPipe
clear_ended pipe passed = clear_ended_at pipe passed pipe.phase

-- The class reads the first n bytes held.
abbrev pub taken : ℕ → InPipe → InPipe
taken n pipe = record pipe { held = drop n pipe.held }

-- A session.

abbrev pub closed : InPipe
closed = record { phase = Closed; toggle = D0; tries = 0; held = [] }

abbrev pub opened : InPipe
opened = record closed { phase = Rest }

-- what the host does to an open pipe between the transactions, but for clearing
pub data InDeed : Type 0 where
  Irq : InDeed
  Task : InDeed
  Starts : InDeed
  Reads : (n : ℕ) → InDeed

abbrev pub after_deed : InPipe → InDeed → InPipe
after_deed pipe Irq = after_irq pipe
after_deed pipe Task = after_task pipe
after_deed pipe Starts = started pipe
after_deed pipe (Reads n) = taken n pipe

-- what happens to an open pipe. `size` is the endpoint's
pub data InEvent : Type 0 where
  -- its turn on the bus, and the answer
  Turn : (reply : BusAnswer) → InEvent
  Does : (deed : InDeed) → InEvent
  Clears : InEvent
  ClearEnds : (passed : Bool) → InEvent

abbrev pub after_event : ℕ → InPipe → InEvent → InPipe
after_event size pipe (Turn reply) = after_xact size pipe reply
after_event size pipe (Does deed) = after_deed pipe deed
after_event size pipe Clears = cleared pipe
after_event size pipe (ClearEnds passed) = clear_ended pipe passed

abbrev pub after_events : ℕ → InPipe → List InEvent → InPipe
after_events size pipe [] = pipe
after_events size pipe (event ∷ events) = after_events size (after_event size pipe event) events

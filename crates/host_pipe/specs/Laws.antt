-- What the laws on a host's pipes speak of: USB 2.0, 8.4.5, 8.6 and 9.4.5.
use Rattle.std.specs.Prelude.{◌≡◌, ◌≤◌, ℕ, ◌++◌, List, [], ◌∷◌, Bool, true, false, length, take, Option, Some, None, is_some, if◌then◌else◌, ⊤, ◌<◌, suc, nat_lt}
use Rattle.std.specs.List.{concat}
use Rattle.usb_packet.specs.declared.bus.Toggle.{Toggle}
use Rattle.usb_packet.specs.declared.bus.BusAnswer.{BusAnswer}
use Rattle.usb_packet.specs.declared.bus.BusAnswer.TheVariants as answers
use Rattle.usb_packet.specs.Toggles.{flipped, same_toggle}
use Rattle.host_pipe.specs.Tries.{Went, Refused, Lost}
use Rattle.host_pipe.specs.OutPipe as out
use Rattle.host_pipe.specs.OutPipe.{OutPipe, OutPhase, OutDeed, OutEvent, Unheard, result_of}
use Rattle.host_pipe.specs.InPipe as inward
use Rattle.host_pipe.specs.InPipe.{InPipe, InPhase, InEvent}
use Rattle.host_pipe.specs.OutLink.{OutLink, listed}
use Rattle.host_pipe.specs.InLink.{InLink}

-- The packet that the device took and that the host's handler runs have not taken off: the one under way, exactly where the
-- toggles differ
abbrev pub doubt_of : Bool → Option (List ℕ) → List (List ℕ)
doubt_of same under_way = if same then [] else listed under_way

abbrev pub in_doubt : OutLink → List (List ℕ)
in_doubt link = doubt_of (same_toggle link.pipe.toggle link.toggle) link.pipe.under_way

-- the packet stands at the front of the pending bytes
pub record IsFront (packet pending : List ℕ) : Type 0 where
  pub rest : List ℕ
  pub whole : pending ≡ packet ++ rest

-- The device took each packet that the host took off, and the one in doubt, exactly once and in order; those that the host took
-- off are, joined, the front of what the class wrote
pub record IsSentOnce (link : OutLink) : Type 0 where
  pub packets : link.taken ≡ link.gone ++ in_doubt link
  pub bytes : concat link.gone ++ link.pipe.pending ≡ link.written
  -- where the toggles differ there is a packet in doubt
  pub doubt : same_toggle link.pipe.toggle link.toggle ≡ false → is_some link.pipe.under_way ≡ true
  -- the packet under way is the front of what is pending
  pub front : (packet : List ℕ) → link.pipe.under_way ≡ Some packet → IsFront packet link.pipe.pending
  -- and what the device took, joined, the front of what the class wrote
  pub whole : IsFront (concat link.taken) link.written

-- the data that landed, and the toggle that is expected once a handler run took it in
abbrev pub landed : InPhase → List ℕ
landed (inward.Landed (inward.Came packet)) = packet
landed (inward.Landed inward.Stalled) = []
landed (inward.Landed inward.Unheard) = []
landed inward.Closed = []
landed inward.Rest = []
landed inward.Running = []
landed (inward.Posted note) = []
landed inward.Halted = []
landed inward.Dead = []
landed inward.Clearing = []

abbrev pub expected : InPhase → Toggle → Toggle
expected (inward.Landed (inward.Came packet)) toggle = flipped toggle
expected (inward.Landed inward.Stalled) toggle = toggle
expected (inward.Landed inward.Unheard) toggle = toggle
expected inward.Closed toggle = toggle
expected inward.Rest toggle = toggle
expected inward.Running toggle = toggle
expected (inward.Posted note) toggle = toggle
expected inward.Halted toggle = toggle
expected inward.Dead toggle = toggle
expected inward.Clearing toggle = toggle

-- the packet that came and whose acknowledgement the device didn't hear: its front packet, exactly where the toggles differ
abbrev pub in_toggle : InLink → Bool
in_toggle link = same_toggle (expected link.pipe.phase link.pipe.toggle) link.toggle

abbrev pub unheard : Bool → List (List ℕ) → List (List ℕ)
unheard same packets = if same then [] else take 1 packets

-- Of the packets that the device was given, those that it moved on from and the one in doubt came exactly once and in order
pub record IsHeldOnce (given : List (List ℕ)) (link : InLink) : Type 0 where
  pub all : link.moved ++ link.packets ≡ given
  pub bytes : link.read ++ link.pipe.held ++ landed link.pipe.phase ≡ concat (link.moved ++ unheard (in_toggle link) link.packets)
  -- where the toggles differ there is a packet in doubt
  pub doubt : in_toggle link ≡ false → 1 ≤ length link.packets

-- Nothing that ends a packet's way: an acknowledgement, or a clear
abbrev pub IsNoAck : BusAnswer → Type 0
IsNoAck answers.Ack = ⊥
IsNoAck answers.Nak = ⊤
IsNoAck answers.Stall = ⊤
IsNoAck answers.NoAnswer = ⊤
IsNoAck answers.Done = ⊤
IsNoAck (answers.Data toggle packet) = ⊤

abbrev pub IsUnheard : OutEvent → Type 0
IsUnheard (out.Turn reply) = IsNoAck reply
IsUnheard (out.Does deed) = ⊤
IsUnheard out.Clears = ⊥
IsUnheard (out.ClearEnds passed) = ⊤

-- sent is the packet, or nothing
abbrev pub IsItOrNothing : List ℕ → Option (List ℕ) → Type 0
IsItOrNothing packet None = ⊤
IsItOrNothing packet (Some other) = other ≡ packet

-- How often in a row the packet, or the token, was sent without an answer that fits: a start and every answer begin the row anew.

abbrev pub is_unheard : BusAnswer → Bool
is_unheard answers.Ack = false
is_unheard answers.Nak = false
is_unheard answers.Stall = false
is_unheard answers.NoAnswer = true
is_unheard answers.Done = true
is_unheard (answers.Data toggle packet) = true

abbrev pub row_answered : OutPhase → ℕ → BusAnswer → ℕ
row_answered out.Running row reply = if is_unheard reply then suc row else 0
row_answered out.Closed row reply = row
row_answered out.Rest row reply = row
row_answered (out.Landed result) row reply = row
row_answered (out.Posted note) row reply = row
row_answered out.Halted row reply = row
row_answered out.Dead row reply = row
row_answered out.Clearing row reply = row

abbrev pub row_started : OutPhase → ℕ → ℕ
row_started out.Rest row = 0
row_started out.Closed row = row
row_started out.Running row = row
row_started (out.Landed result) row = row
row_started (out.Posted note) row = row
row_started out.Halted row = row
row_started out.Dead row = row
row_started out.Clearing row = row

abbrev pub row_by : OutPhase → ℕ → OutEvent → ℕ
row_by phase row (out.Turn reply) = row_answered phase row reply
row_by phase row (out.Does out.Starts) = row_started phase row
row_by phase row (out.Does out.Irq) = row
row_by phase row (out.Does out.Task) = row
row_by phase row (out.Does (out.Writes bytes)) = row
row_by phase row (out.Does out.Asks) = row
row_by phase row out.Clears = row
row_by phase row (out.ClearEnds passed) = row

abbrev pub out_row : ℕ → ℕ → OutPipe → ℕ → List OutEvent → ℕ
out_row size capacity pipe row [] = row
out_row size capacity pipe row (event ∷ events) = out_row size capacity (out.after_event size capacity pipe event) (row_by pipe.phase row event) events

-- a pipe that runs has tried less than three times in a row, and one whose tries are over exactly three times
abbrev pub IsRow : OutPhase → ℕ → ℕ → Type 0
IsRow out.Running tries row = (tries ≡ row) × (row < 3)
IsRow (out.Landed out.Unheard) tries row = (suc tries ≡ row) × (row ≤ 3)
IsRow (out.Posted Lost) tries row = row ≡ 3
IsRow (out.Landed out.Acknowledged) tries row = ⊤
IsRow (out.Landed out.Stalled) tries row = ⊤
IsRow (out.Posted Went) tries row = ⊤
IsRow (out.Posted Refused) tries row = ⊤
IsRow out.Closed tries row = ⊤
IsRow out.Rest tries row = ⊤
IsRow out.Halted tries row = ⊤
IsRow out.Dead tries row = ⊤
IsRow out.Clearing tries row = ⊤

-- data above the endpoint's size doesn't fit an IN token
abbrev pub is_in_unheard : ℕ → BusAnswer → Bool
is_in_unheard size answers.Nak = false
is_in_unheard size answers.Stall = false
is_in_unheard size answers.NoAnswer = true
is_in_unheard size answers.Ack = true
is_in_unheard size answers.Done = true
is_in_unheard size (answers.Data toggle packet) = nat_lt size (length packet)

abbrev pub in_row_answered : ℕ → InPhase → ℕ → BusAnswer → ℕ
in_row_answered size inward.Running row reply = if is_in_unheard size reply then suc row else 0
in_row_answered size inward.Closed row reply = row
in_row_answered size inward.Rest row reply = row
in_row_answered size (inward.Landed result) row reply = row
in_row_answered size (inward.Posted note) row reply = row
in_row_answered size inward.Halted row reply = row
in_row_answered size inward.Dead row reply = row
in_row_answered size inward.Clearing row reply = row

abbrev pub in_row_started : InPhase → ℕ → ℕ
in_row_started inward.Rest row = 0
in_row_started inward.Closed row = row
in_row_started inward.Running row = row
in_row_started (inward.Landed result) row = row
in_row_started (inward.Posted note) row = row
in_row_started inward.Halted row = row
in_row_started inward.Dead row = row
in_row_started inward.Clearing row = row

abbrev pub in_row_by : ℕ → InPhase → ℕ → InEvent → ℕ
in_row_by size phase row (inward.Turn reply) = in_row_answered size phase row reply
in_row_by size phase row (inward.Does inward.Starts) = in_row_started phase row
in_row_by size phase row (inward.Does inward.Irq) = row
in_row_by size phase row (inward.Does inward.Task) = row
in_row_by size phase row (inward.Does (inward.Reads n)) = row
in_row_by size phase row inward.Clears = row
in_row_by size phase row (inward.ClearEnds passed) = row

abbrev pub in_row : ℕ → InPipe → ℕ → List InEvent → ℕ
in_row size pipe row [] = row
in_row size pipe row (event ∷ events) = in_row size (inward.after_event size pipe event) (in_row_by size pipe.phase row event) events

abbrev pub IsInRow : InPhase → ℕ → ℕ → Type 0
IsInRow inward.Running tries row = (tries ≡ row) × (row < 3)
IsInRow (inward.Landed inward.Unheard) tries row = (suc tries ≡ row) × (row ≤ 3)
IsInRow (inward.Posted Lost) tries row = row ≡ 3
IsInRow (inward.Landed (inward.Came packet)) tries row = ⊤
IsInRow (inward.Landed inward.Stalled) tries row = ⊤
IsInRow (inward.Posted Went) tries row = ⊤
IsInRow (inward.Posted Refused) tries row = ⊤
IsInRow inward.Closed tries row = ⊤
IsInRow inward.Rest tries row = ⊤
IsInRow inward.Halted tries row = ⊤
IsInRow inward.Dead tries row = ⊤
IsInRow inward.Clearing tries row = ⊤

-- a turn without an answer, and the handler run after it
abbrev pub silence : List OutEvent
silence = out.Turn answers.NoAnswer ∷ out.Does out.Irq ∷ []

abbrev pub in_silence : List InEvent
in_silence = inward.Turn answers.NoAnswer ∷ inward.Does inward.Irq ∷ []

-- no clear ends and none is accepted
abbrev pub ClearsNoOut : OutEvent → Type 0
ClearsNoOut (out.Turn reply) = ⊤
ClearsNoOut (out.Does deed) = ⊤
ClearsNoOut out.Clears = ⊥
ClearsNoOut (out.ClearEnds passed) = ⊤

abbrev pub EndsNoOut : OutEvent → Type 0
EndsNoOut (out.Turn reply) = ⊤
EndsNoOut (out.Does deed) = ⊤
EndsNoOut out.Clears = ⊤
EndsNoOut (out.ClearEnds passed) = ⊥

abbrev pub ClearsNoIn : InEvent → Type 0
ClearsNoIn (inward.Turn reply) = ⊤
ClearsNoIn (inward.Does deed) = ⊤
ClearsNoIn inward.Clears = ⊥
ClearsNoIn (inward.ClearEnds passed) = ⊤

abbrev pub EndsNoIn : InEvent → Type 0
EndsNoIn (inward.Turn reply) = ⊤
EndsNoIn (inward.Does deed) = ⊤
EndsNoIn inward.Clears = ⊤
EndsNoIn (inward.ClearEnds passed) = ⊥

-- What the laws on pipes speak of: USB 2.0, 5.7.3, 5.8.3, 8.4.5, 8.6 and 9.4.5.
use Rattle.std.specs.Prelude.{◌≡◌, ◌≤◌, ℕ, zero, suc, ◌+◌, ◌++◌, List, [], ◌∷◌, Bool, true, false, ◌&&◌, length, take, drop, if◌then◌else◌, ⊤}
use Rattle.std.specs.List.{concat}
use Rattle.usb_packet.specs.declared.bus.Toggle.{Toggle}
use Rattle.usb_packet.specs.declared.bus.BusAnswer.{BusAnswer}
use Rattle.usb_packet.specs.declared.bus.BusAnswer.TheVariants as answers
use Rattle.usb_packet.specs.Toggles.{same_toggle}
use Rattle.device_pipe.specs.OutPipe as out
use Rattle.device_pipe.specs.OutPipe.{OutPipe, OutPhase, OutDeed, OutEvent, out_answer, is_ack, landed}
use Rattle.device_pipe.specs.InPipe as inward
use Rattle.device_pipe.specs.InPipe.{InPipe, InPhase, InDeed, InEvent, in_answer}
use Rattle.device_pipe.specs.OutLink.{OutLink, read_by}
use Rattle.device_pipe.specs.InLink.{InLink}

-- The host's packet that the device took and whose acknowledgement was lost: its front packet, exactly where the toggles
-- differ
abbrev pub in_doubt : OutLink → List (List ℕ)
in_doubt link = if same_toggle link.toggle link.pipe.toggle then [] else take 1 link.packets

-- a packet that came and of which the class has not learned
abbrev pub unlearned : OutPhase → ℕ
unlearned (out.Landed packet) = 1
unlearned out.Posted = 1
unlearned (out.Closed over) = 0
unlearned out.Rest = 0
unlearned out.Armed = 0
unlearned out.Stale = 0

-- Of the packets that the host was given, those that it moved on from and the one in doubt came exactly once and in order
pub record IsTakenOnce (given : List (List ℕ)) (link : OutLink) : Type 0 where
  pub all : link.moved ++ link.packets ≡ given
  -- the bytes: read, held, landed
  pub bytes : link.read ++ link.pipe.held ++ landed link.pipe.phase ≡ concat (link.moved ++ in_doubt link)
  -- their number
  pub number : link.learned + unlearned link.pipe.phase ≡ length (link.moved ++ in_doubt link)
  -- where the toggles differ there is a packet in doubt
  pub doubt : same_toggle link.toggle link.pipe.toggle ≡ false → 1 ≤ length link.packets

-- the packets of the transfer that runs which weren't acknowledged
abbrev pub left_of : InPhase → List (List ℕ)
left_of (inward.Running n left) = left
left_of inward.Closed = []
left_of inward.Rest = []
left_of (inward.Posted n) = []

-- How many packets the host kept whose acknowledgement was lost: one, exactly where the toggles differ
abbrev pub doubts : InLink → ℕ
doubts link = if same_toggle link.toggle link.pipe.toggle then 0 else 1

-- the bytes of the transfer that runs
abbrev pub running : InPhase → ℕ
running (inward.Running n left) = n
running inward.Closed = 0
running inward.Rest = 0
running (inward.Posted n) = 0

-- the bytes of a transfer that ended, of which the class has not learned
abbrev pub unlearned_bytes : InPhase → ℕ
unlearned_bytes (inward.Posted n) = n
unlearned_bytes inward.Closed = 0
unlearned_bytes inward.Rest = 0
unlearned_bytes (inward.Running n left) = 0

-- The host kept each packet that was acknowledged or is in doubt exactly once and in order
pub record IsKeptOnce (capacity : ℕ) (link : InLink) : Type 0 where
  -- it kept the packets of the transfers that started, but for those that are left
  pub packets : link.kept ++ drop (doubts link) (left_of link.pipe.phase) ≡ link.begun
  -- and those are, joined, what the class queued, but for what is queued past the transfer that runs
  pub bytes : concat link.begun ++ inward.beyond_transfer link.pipe.phase link.pipe.queue ≡ link.queued
  -- the class learned of the bytes that left the queue
  pub number : link.learned + unlearned_bytes link.pipe.phase + length link.pipe.queue ≡ length link.queued
  -- the transfer that runs lies in the queue, and that in its capacity
  pub within : running link.pipe.phase ≤ length link.pipe.queue
  pub fits : length link.pipe.queue ≤ capacity
  -- where the toggles differ there is a packet in doubt
  pub doubt : same_toggle link.toggle link.pipe.toggle ≡ false → 1 ≤ length (left_of link.pipe.phase)

-- what an IN pipe keeps to
pub record IsBounded (capacity : ℕ) (pipe : InPipe) : Type 0 where
  -- what lies ready are packets that are left, and not more than two
  pub ready : pipe.loaded ≤ length (left_of pipe.phase)
  pub most : pipe.loaded ≤ inward.most_loaded
  -- the transfer that runs lies in the queue, and that in its capacity
  pub within : running pipe.phase ≤ length pipe.queue
  pub fits : length pipe.queue ≤ capacity

-- Packets that a transfer of one or more bytes may have (5.7.3 for interrupt, 5.8.3 for bulk): each but the last has exactly
-- the endpoint's size, and the last has at most so many bytes and isn't empty
abbrev pub AreFullBefore : ℕ → List ℕ → List (List ℕ) → Type 0
AreFullBefore size packet [] = (1 ≤ length packet) × (length packet ≤ size)
AreFullBefore size packet (next ∷ packets) = (length packet ≡ size) × AreFullBefore size next packets

abbrev pub AreFull : ℕ → List (List ℕ) → Type 0
AreFull size [] = ⊥
AreFull size (packet ∷ packets) = AreFullBefore size packet packets

-- the bytes of the packets that were acknowledged with the pipe's toggle
abbrev pub took_by : OutPipe → OutEvent → List ℕ
took_by pipe (out.Packet toggle bytes) = if is_ack (out_answer pipe) && same_toggle toggle pipe.toggle then bytes else []
took_by pipe (out.Does deed) = []
took_by pipe out.Clears = []
took_by pipe out.Drops = []

abbrev pub took : OutPipe → List OutEvent → List ℕ
took pipe [] = []
took pipe (event ∷ events) = took_by pipe event ++ took (out.after_event pipe event) events

-- the bytes that the class read
abbrev pub read_at : OutPipe → OutEvent → List ℕ
read_at pipe (out.Does deed) = read_by pipe deed
read_at pipe (out.Packet toggle bytes) = []
read_at pipe out.Clears = []
read_at pipe out.Drops = []

abbrev pub read : OutPipe → List OutEvent → List ℕ
read pipe [] = []
read pipe (event ∷ events) = read_at pipe event ++ read (out.after_event pipe event) events

-- the answers to the packets, and to the tokens
abbrev pub out_answer_to : OutPipe → OutEvent → List BusAnswer
out_answer_to pipe (out.Packet toggle bytes) = out_answer pipe ∷ []
out_answer_to pipe (out.Does deed) = []
out_answer_to pipe out.Clears = []
out_answer_to pipe out.Drops = []

abbrev pub out_answers : OutPipe → List OutEvent → List BusAnswer
out_answers pipe [] = []
out_answers pipe (event ∷ events) = out_answer_to pipe event ++ out_answers (out.after_event pipe event) events

abbrev pub in_answer_to : InPipe → InEvent → List BusAnswer
in_answer_to pipe (inward.Token ok) = in_answer pipe ∷ []
in_answer_to pipe (inward.Does deed) = []
in_answer_to pipe inward.Clears = []
in_answer_to pipe inward.Drops = []

abbrev pub in_answers : ℕ → ℕ → InPipe → List InEvent → List BusAnswer
in_answers size capacity pipe [] = []
in_answers size capacity pipe (event ∷ events) =
    in_answer_to pipe event ++ in_answers size capacity (inward.after_event size capacity pipe event) events

-- a pipe that a session has open
abbrev pub IsOutOpen : OutPhase → Type 0
IsOutOpen (out.Closed over) = ⊥
IsOutOpen out.Rest = ⊤
IsOutOpen out.Armed = ⊤
IsOutOpen (out.Landed packet) = ⊤
IsOutOpen out.Posted = ⊤
IsOutOpen out.Stale = ⊤

abbrev pub IsInOpen : InPhase → Type 0
IsInOpen inward.Closed = ⊥
IsInOpen inward.Rest = ⊤
IsInOpen (inward.Running n left) = ⊤
IsInOpen (inward.Posted n) = ⊤

-- the class drops nothing
abbrev pub DropsNothing : OutEvent → Type 0
DropsNothing (out.Packet toggle bytes) = ⊤
DropsNothing (out.Does deed) = ⊤
DropsNothing out.Clears = ⊤
DropsNothing out.Drops = ⊥

-- no halt is cleared
abbrev pub ClearsNoOut : OutEvent → Type 0
ClearsNoOut (out.Packet toggle bytes) = ⊤
ClearsNoOut (out.Does deed) = ⊤
ClearsNoOut out.Clears = ⊥
ClearsNoOut out.Drops = ⊤

abbrev pub ClearsNoIn : InEvent → Type 0
ClearsNoIn (inward.Token ok) = ⊤
ClearsNoIn (inward.Does deed) = ⊤
ClearsNoIn inward.Clears = ⊥
ClearsNoIn inward.Drops = ⊤

-- the class doesn't arm
abbrev pub IsNoArming : OutDeed → Type 0
IsNoArming out.Irq = ⊤
IsNoArming out.Task = ⊤
IsNoArming out.Arms = ⊥
IsNoArming (out.Reads n) = ⊤
IsNoArming out.Halts = ⊤

abbrev pub ArmsNothing : OutEvent → Type 0
ArmsNothing (out.Does deed) = IsNoArming deed
ArmsNothing (out.Packet toggle bytes) = ⊤
ArmsNothing out.Clears = ⊤
ArmsNothing out.Drops = ⊤

-- the class doesn't arm, and the endpoint isn't halted
abbrev pub IsNoArmingOrHalt : OutDeed → Type 0
IsNoArmingOrHalt out.Irq = ⊤
IsNoArmingOrHalt out.Task = ⊤
IsNoArmingOrHalt out.Arms = ⊥
IsNoArmingOrHalt (out.Reads n) = ⊤
IsNoArmingOrHalt out.Halts = ⊥

abbrev pub ArmsAndHaltsNothing : OutEvent → Type 0
ArmsAndHaltsNothing (out.Does deed) = IsNoArmingOrHalt deed
ArmsAndHaltsNothing (out.Packet toggle bytes) = ⊤
ArmsAndHaltsNothing out.Clears = ⊤
ArmsAndHaltsNothing out.Drops = ⊤

-- the endpoint isn't halted
abbrev pub IsNoOutHalt : OutDeed → Type 0
IsNoOutHalt out.Irq = ⊤
IsNoOutHalt out.Task = ⊤
IsNoOutHalt out.Arms = ⊤
IsNoOutHalt (out.Reads n) = ⊤
IsNoOutHalt out.Halts = ⊥

-- nothing that ends a pipe's arming: a packet of this toggle, a halt, or a clear
abbrev pub LeavesArmed : Toggle → OutEvent → Type 0
LeavesArmed expected (out.Packet toggle bytes) = same_toggle toggle expected ≡ false
LeavesArmed expected (out.Does deed) = IsNoOutHalt deed
LeavesArmed expected out.Clears = ⊥
LeavesArmed expected out.Drops = ⊤

-- no packet of this toggle, and no clear
abbrev pub LeavesToggle : Toggle → OutEvent → Type 0
LeavesToggle expected (out.Packet toggle bytes) = same_toggle toggle expected ≡ false
LeavesToggle expected (out.Does deed) = ⊤
LeavesToggle expected out.Clears = ⊥
LeavesToggle expected out.Drops = ⊤

-- no handler run
abbrev pub IsNoIrq : OutDeed → Type 0
IsNoIrq out.Irq = ⊥
IsNoIrq out.Task = ⊤
IsNoIrq out.Arms = ⊤
IsNoIrq (out.Reads n) = ⊤
IsNoIrq out.Halts = ⊤

abbrev pub RunsNoHandler : OutEvent → Type 0
RunsNoHandler (out.Does deed) = IsNoIrq deed
RunsNoHandler (out.Packet toggle bytes) = ⊤
RunsNoHandler out.Clears = ⊤
RunsNoHandler out.Drops = ⊤

abbrev pub IsNoInIrq : InDeed → Type 0
IsNoInIrq inward.Irq = ⊥
IsNoInIrq inward.Task = ⊤
IsNoInIrq inward.Starts = ⊤
IsNoInIrq (inward.Writes bytes) = ⊤
IsNoInIrq inward.Halts = ⊤

abbrev pub InRunsNoHandler : InEvent → Type 0
InRunsNoHandler (inward.Does deed) = IsNoInIrq deed
InRunsNoHandler (inward.Token ok) = ⊤
InRunsNoHandler inward.Clears = ⊤
InRunsNoHandler inward.Drops = ⊤

-- sessions one after the other, with what happens in each
abbrev pub after_sessions : OutPipe → List (List OutEvent) → OutPipe
after_sessions pipe [] = pipe
after_sessions pipe (events ∷ sessions) = after_sessions (out.after_events (out.opened (out.closed pipe)) events) sessions

-- nothing that ends a packet's sending: an acknowledgement, a halt, a clear, or a drop
abbrev pub IsNoHalt : InDeed → Type 0
IsNoHalt inward.Irq = ⊤
IsNoHalt inward.Task = ⊤
IsNoHalt inward.Starts = ⊤
IsNoHalt (inward.Writes bytes) = ⊤
IsNoHalt inward.Halts = ⊥

abbrev pub IsUnheard : InEvent → Type 0
IsUnheard (inward.Token true) = ⊥
IsUnheard (inward.Token false) = ⊤
IsUnheard (inward.Does deed) = IsNoHalt deed
IsUnheard inward.Clears = ⊥
IsUnheard inward.Drops = ⊥

-- whether a token is answered by a packet
abbrev pub is_data : BusAnswer → Bool
is_data (answers.Data toggle packet) = true
is_data answers.Done = false
is_data answers.Ack = false
is_data answers.Nak = false
is_data answers.Stall = false
is_data answers.NoAnswer = false

-- handler runs, and between them two tokens whose packets are acknowledged
abbrev pub rounds : ℕ → List InEvent
rounds zero = inward.Does inward.Irq ∷ []
rounds (suc k) = inward.Does inward.Irq ∷ inward.Token true ∷ inward.Token true ∷ rounds k

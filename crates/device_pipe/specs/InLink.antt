-- An IN pipe with the host at its other end: USB 2.0, 8.6. The host keeps a packet that has the toggle that it expects,
-- and flips that. A packet of the other toggle is the one before it again, and is dropped. It acknowledges both.
use Rattle.std.specs.Prelude.{ℕ, ◌+◌, ◌++◌, List, [], ◌∷◌, take, Option, Some, None, if◌then◌else◌}
use Rattle.usb_packet.specs.declared.bus.Toggle.{Toggle}
use Rattle.usb_packet.specs.declared.bus.Toggle.TheVariants.{D0}
use Rattle.usb_packet.specs.declared.bus.BusAnswer.{BusAnswer}
use Rattle.usb_packet.specs.declared.bus.BusAnswer.TheVariants as answers
use Rattle.usb_packet.specs.Toggles.{flipped, same_toggle}
use Rattle.device_pipe.specs.InPipe.{InPipe, InPhase, Closed, Rest, Running, Posted, cut, InDeed, Irq, Task, Starts, Writes, Halts, in_answer, after_token, after_deed, ended, room, opened}
use Rattle.device_pipe.specs.Link.{Fate, arrives, is_whole}

pub record InLink : Type 0 where
  pub pipe : InPipe
  -- the toggle that the host expects, and the packets that it kept
  pub toggle : Toggle
  pub kept : List (List ℕ)
  -- the bytes that the class's calls queued
  pub queued : List ℕ
  -- the packets of the transfers that the class started
  pub begun : List (List ℕ)
  -- how many bytes the class has learned to have ended
  pub learned : ℕ

-- a pipe just opened, and a host at DATA0
abbrev pub in_start : InLink
in_start = record { pipe = opened; toggle = D0; kept = []; queued = []; begun = []; learned = 0 }

-- what the host makes of the answer that it gets
abbrev pub host_end : InLink → BusAnswer → InLink
host_end link (answers.Data toggle packet) =
    if same_toggle toggle link.toggle
    then record link { toggle = flipped link.toggle; kept = link.kept ++ packet ∷ [] }
    else link
host_end link answers.Done = link
host_end link answers.Ack = link
host_end link answers.Nak = link
host_end link answers.Stall = link
host_end link answers.NoAnswer = link

-- the host asks for a packet
abbrev pub asked : InLink → Fate → InLink
asked link fate =
    record (if arrives fate then host_end link (in_answer link.pipe) else link) { pipe = after_token link.pipe (is_whole fate) }

-- the bytes that are queued by a deed of the device
abbrev pub queued_by : ℕ → InPipe → InDeed → List ℕ
queued_by capacity pipe (Writes bytes) = take (room capacity pipe) bytes
queued_by capacity pipe Irq = []
queued_by capacity pipe Task = []
queued_by capacity pipe Starts = []
queued_by capacity pipe Halts = []

-- the packets of the transfer that starts by it. `size` is the endpoint's
abbrev pub begun_at : ℕ → List ℕ → InPhase → List (List ℕ)
begun_at size queue Rest = cut size queue
begun_at size queue Closed = []
begun_at size queue (Running n left) = []
begun_at size queue (Posted n) = []

abbrev pub begun_by : ℕ → InPipe → InDeed → List (List ℕ)
begun_by size pipe Starts = begun_at size pipe.queue pipe.phase
begun_by size pipe (Writes bytes) = []
begun_by size pipe Irq = []
begun_by size pipe Task = []
begun_by size pipe Halts = []

abbrev pub count_of : Option ℕ → ℕ
count_of None = 0
count_of (Some n) = n

-- how many bytes the class learns by it to have ended
abbrev pub learned_by : InPipe → InDeed → ℕ
learned_by pipe Task = count_of (ended pipe)
learned_by pipe (Writes bytes) = 0
learned_by pipe Irq = 0
learned_by pipe Starts = 0
learned_by pipe Halts = 0

pub data InStep : Type 0 where
  -- the host asks for a packet
  Asks : (fate : Fate) → InStep
  Does : (deed : InDeed) → InStep

-- `size` is the endpoint's, `capacity` the most bytes that are queued
abbrev pub in_step : ℕ → ℕ → InLink → InStep → InLink
in_step size capacity link (Asks fate) = asked link fate
in_step size capacity link (Does deed) =
    record link {
      pipe = after_deed size capacity link.pipe deed;
      queued = link.queued ++ queued_by capacity link.pipe deed;
      begun = link.begun ++ begun_by size link.pipe deed;
      learned = link.learned + learned_by link.pipe deed;
    }

abbrev pub in_run : ℕ → ℕ → InLink → List InStep → InLink
in_run size capacity link [] = link
in_run size capacity link (step ∷ steps) = in_run size capacity (in_step size capacity link step) steps

-- An OUT pipe with the device at its other end: USB 2.0, 8.6. The device takes a packet that has the toggle that it expects, and
-- flips that. A packet of the other toggle is the one before it again: it is acknowledged and dropped.
use Rattle.std.specs.Prelude.{ℕ, ◌-◌, ◌++◌, List, [], ◌∷◌, Bool, true, false, ◌&&◌, length, take, Option, Some, None, if◌then◌else◌}
use Rattle.usb_packet.specs.declared.bus.Toggle.{Toggle}
use Rattle.usb_packet.specs.declared.bus.Toggle.TheVariants.{D0}
use Rattle.usb_packet.specs.declared.bus.BusAnswer.{BusAnswer}
use Rattle.usb_packet.specs.declared.bus.BusAnswer.TheVariants as answers
use Rattle.usb_packet.specs.Toggles.{flipped, same_toggle}
use Rattle.device_pipe.specs.Link.{Fate, arrives, is_whole}
use Rattle.host_pipe.specs.OutPipe.{OutPipe, OutPhase, Closed, Rest, Running, Landed, Posted, Halted, Dead, Clearing, Acknowledged, Stalled, Unheard, OutDeed, Irq, Task, Starts, Writes, Asks, out_sent, after_xact, after_deed, opened}

-- what the device does with an undamaged packet
pub data Attitude : Type 0 where
  -- it acknowledges it
  Takes : Attitude
  -- it can't take one now
  Waits : Attitude
  -- its endpoint is halted
  Stalls : Attitude

abbrev pub is_taking : Attitude → Bool
is_taking Takes = true
is_taking Waits = false
is_taking Stalls = false

abbrev pub handshake : Attitude → BusAnswer
handshake Takes = answers.Ack
handshake Waits = answers.Nak
handshake Stalls = answers.Stall

-- what the host hears
abbrev pub heard : Fate → Attitude → BusAnswer
heard fate attitude = if is_whole fate then handshake attitude else answers.NoAnswer

pub record OutLink : Type 0 where
  pub pipe : OutPipe
  -- the toggle that the device expects, and the packets that it took
  pub toggle : Toggle
  pub taken : List (List ℕ)
  -- the packets that the host's handler runs took off, and the bytes that the class's calls made pending
  pub gone : List (List ℕ)
  pub written : List ℕ

-- a pipe just opened, and a device at DATA0
abbrev pub out_start : OutLink
out_start = record { pipe = opened; toggle = D0; taken = []; gone = []; written = [] }

-- a packet arrives at a device that acknowledges it
abbrev pub arrived : OutLink → List ℕ → OutLink
arrived link packet =
    if same_toggle link.pipe.toggle link.toggle
    then record link { toggle = flipped link.toggle; taken = link.taken ++ packet ∷ [] }
    else link

-- the pipe's turn
abbrev pub transacted : OutLink → Fate → Attitude → Option (List ℕ) → OutLink
transacted link fate attitude None = link
transacted link fate attitude (Some packet) =
    record (if arrives fate && is_taking attitude then arrived link packet else link) { pipe = after_xact link.pipe (heard fate attitude) }

-- the packet that a handler run takes off
abbrev pub listed : Option (List ℕ) → List (List ℕ)
listed None = []
listed (Some packet) = packet ∷ []

abbrev pub gone_at : OutPhase → Option (List ℕ) → List (List ℕ)
gone_at (Landed Acknowledged) under_way = listed under_way
gone_at (Landed Stalled) under_way = []
gone_at (Landed Unheard) under_way = []
gone_at Closed under_way = []
gone_at Rest under_way = []
gone_at Running under_way = []
gone_at (Posted note) under_way = []
gone_at Halted under_way = []
gone_at Dead under_way = []
gone_at Clearing under_way = []

abbrev pub gone_by : OutPipe → OutDeed → List (List ℕ)
gone_by pipe Irq = gone_at pipe.phase pipe.under_way
gone_by pipe Task = []
gone_by pipe Starts = []
gone_by pipe (Writes bytes) = []
gone_by pipe Asks = []

-- the bytes that are pending by a deed
abbrev pub written_by : ℕ → OutPipe → OutDeed → List ℕ
written_by capacity pipe (Writes bytes) = take (capacity - length pipe.pending) bytes
written_by capacity pipe Irq = []
written_by capacity pipe Task = []
written_by capacity pipe Starts = []
written_by capacity pipe Asks = []

pub data OutStep : Type 0 where
  Sends : (fate : Fate) → (attitude : Attitude) → OutStep
  Does : (deed : OutDeed) → OutStep

abbrev pub out_step : ℕ → ℕ → OutLink → OutStep → OutLink
out_step size capacity link (Sends fate attitude) = transacted link fate attitude (out_sent link.pipe)
out_step size capacity link (Does deed) =
    record link {
      pipe = after_deed size capacity link.pipe deed;
      gone = link.gone ++ gone_by link.pipe deed;
      written = link.written ++ written_by capacity link.pipe deed;
    }

abbrev pub out_run : ℕ → ℕ → OutLink → List OutStep → OutLink
out_run size capacity link [] = link
out_run size capacity link (step ∷ steps) = out_run size capacity (out_step size capacity link step) steps

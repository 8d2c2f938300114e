-- An IN pipe with the device at its other end: USB 2.0, 8.6. The device sends its front packet with its own toggle at every token,
-- until it hears the packet acknowledged. Then it flips its toggle, and moves on to the next packet.
use Rattle.std.specs.Prelude.{ℕ, ◌++◌, List, [], ◌∷◌, ◌&&◌, take, if◌then◌else◌}
use Rattle.usb_packet.specs.declared.bus.Toggle.{Toggle}
use Rattle.usb_packet.specs.declared.bus.Toggle.TheVariants.{D0}
use Rattle.usb_packet.specs.declared.bus.BusAnswer.{BusAnswer}
use Rattle.usb_packet.specs.declared.bus.BusAnswer.TheVariants as answers
use Rattle.usb_packet.specs.Toggles.{flipped}
use Rattle.device_pipe.specs.Link.{Fate, arrives, is_whole}
use Rattle.host_pipe.specs.InPipe.{InPipe, InDeed, Irq, Task, Starts, Reads, in_sent, after_xact, acknowledges, after_deed, opened}
use Rattle.host_pipe.specs.OutLink.{Attitude, Takes, Waits, Stalls}

pub record InLink : Type 0 where
  pub pipe : InPipe
  -- the device's toggle, and its packets that it has not moved on from, the next first
  pub toggle : Toggle
  pub packets : List (List ℕ)
  -- those that it has moved on from
  pub moved : List (List ℕ)
  -- the bytes that the class has read
  pub read : List ℕ

-- a pipe just opened, and a device at DATA0 with packets to send
abbrev pub in_start : List (List ℕ) → InLink
in_start packets = record { pipe = opened; toggle = D0; packets = packets; moved = []; read = [] }

-- what the device sends at a token: its front packet where it is ready to and has one
abbrev pub sent_by : Toggle → List (List ℕ) → Attitude → BusAnswer
sent_by toggle [] Takes = answers.Nak
sent_by toggle (packet ∷ packets) Takes = answers.Data toggle packet
sent_by toggle packets Waits = answers.Nak
sent_by toggle packets Stalls = answers.Stall

-- what the host hears
abbrev pub heard : Fate → BusAnswer → BusAnswer
heard fate answer = if arrives fate then answer else answers.NoAnswer

-- the device hears its packet acknowledged, and moves on
abbrev pub moved_on : InLink → List (List ℕ) → InLink
moved_on link [] = link
moved_on link (packet ∷ packets) =
    record link { toggle = flipped link.toggle; packets = packets; moved = link.moved ++ packet ∷ [] }

-- the token is sent, and answered so
abbrev pub answered_so : ℕ → InLink → Fate → BusAnswer → InLink
answered_so size link fate answer =
    record (if is_whole fate && acknowledges size answer then moved_on link link.packets else link) { pipe = after_xact size link.pipe (heard fate answer) }

-- the pipe's turn
abbrev pub transacted : ℕ → InLink → Fate → Attitude → InLink
transacted size link fate attitude =
    if in_sent link.pipe then answered_so size link fate (sent_by link.toggle link.packets attitude) else link

-- the bytes that the class gets by a deed
abbrev pub read_by : InPipe → InDeed → List ℕ
read_by pipe (Reads n) = take n pipe.held
read_by pipe Irq = []
read_by pipe Task = []
read_by pipe Starts = []

pub data InStep : Type 0 where
  Asks : (fate : Fate) → (attitude : Attitude) → InStep
  Does : (deed : InDeed) → InStep

abbrev pub in_step : ℕ → InLink → InStep → InLink
in_step size link (Asks fate attitude) = transacted size link fate attitude
in_step size link (Does deed) = record link { pipe = after_deed link.pipe deed; read = link.read ++ read_by link.pipe deed }

abbrev pub in_run : ℕ → InLink → List InStep → InLink
in_run size link [] = link
in_run size link (step ∷ steps) = in_run size (in_step size link step) steps

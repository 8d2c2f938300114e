-- An OUT pipe with the host at its other end: USB 2.0, 8.6. The host sends a packet with its own toggle again and again
-- until it hears the packet acknowledged. Then it flips its toggle, and moves on to the next packet.
use Rattle.std.specs.Prelude.{ℕ, ◌+◌, ◌++◌, List, [], ◌∷◌, Bool, ◌&&◌, take, if◌then◌else◌}
use Rattle.usb_packet.specs.declared.bus.Toggle.{Toggle}
use Rattle.usb_packet.specs.declared.bus.Toggle.TheVariants.{D0}
use Rattle.usb_packet.specs.Toggles.{flipped}
use Rattle.device_pipe.specs.OutPipe.{OutPipe, OutDeed, Irq, Task, Arms, Reads, Halts, out_answer, is_ack, after_packet, after_deed, came, opened}
use Rattle.device_pipe.specs.Link.{Fate, arrives, is_whole}

pub record OutLink : Type 0 where
  pub pipe : OutPipe
  -- the host's toggle, and its packets that it has not moved on from, the next first
  pub toggle : Toggle
  pub packets : List (List ℕ)
  -- those that it has moved on from
  pub moved : List (List ℕ)
  -- the bytes that the class has read
  pub read : List ℕ
  -- how many packets the class has learned of
  pub learned : ℕ

-- a pipe just opened, and a host at DATA0 with packets to send
abbrev pub out_start : OutPipe → List (List ℕ) → OutLink
out_start pipe packets = record { pipe = opened pipe; toggle = D0; packets = packets; moved = []; read = []; learned = 0 }

-- what the device makes of the packet that the host sends
abbrev pub device_end : OutLink → List ℕ → Fate → OutPipe
device_end link packet fate = if arrives fate then after_packet link.pipe link.toggle packet else link.pipe

-- whether the host hears its packet acknowledged
abbrev pub hears_ack : OutLink → Fate → Bool
hears_ack link fate = is_whole fate && is_ack (out_answer link.pipe)

-- the host moves on
abbrev pub moved_on : OutLink → List ℕ → List (List ℕ) → OutLink
moved_on link packet packets =
    record link { toggle = flipped link.toggle; packets = packets; moved = link.moved ++ packet ∷ [] }

-- the host sends its next packet, if it has one
abbrev pub transacted : OutLink → Fate → List (List ℕ) → OutLink
transacted link fate [] = link
transacted link fate (packet ∷ packets) =
    record (if hears_ack link fate then moved_on link packet packets else link) { pipe = device_end link packet fate }

-- the bytes that the class gets by a deed of the device
abbrev pub read_by : OutPipe → OutDeed → List ℕ
read_by pipe (Reads n) = take n pipe.held
read_by pipe Irq = []
read_by pipe Task = []
read_by pipe Arms = []
read_by pipe Halts = []

-- how many packets the class learns of by it
abbrev pub learned_by : OutPipe → OutDeed → ℕ
learned_by pipe Task = if came pipe then 1 else 0
learned_by pipe (Reads n) = 0
learned_by pipe Irq = 0
learned_by pipe Arms = 0
learned_by pipe Halts = 0

pub data OutStep : Type 0 where
  -- the host sends its next packet
  Sends : (fate : Fate) → OutStep
  Does : (deed : OutDeed) → OutStep

abbrev pub out_step : OutLink → OutStep → OutLink
out_step link (Sends fate) = transacted link fate link.packets
out_step link (Does deed) =
    record link { pipe = after_deed link.pipe deed; read = link.read ++ read_by link.pipe deed; learned = link.learned + learned_by link.pipe deed }

abbrev pub out_run : OutLink → List OutStep → OutLink
out_run link [] = link
out_run link (step ∷ steps) = out_run (out_step link step) steps

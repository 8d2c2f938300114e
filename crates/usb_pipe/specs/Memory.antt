-- What pipes in memory stand for.
use Rattle.std.specs.Prelude.{ℕ, ◌≡◌, ◌-◌, ◌++◌, List, false, length, take, drop}
use Rattle.usb_packet.specs.declared.bus.Toggle.TheVariants.{D0}
use Rattle.device_pipe.specs.InPipe as inward
use Rattle.device_pipe.specs.InPipe.{InPipe, InPhase, cut}
use Rattle.device_pipe.specs.OutPipe as out
use Rattle.device_pipe.specs.OutPipe.{OutPipe, OutPhase}
use Rattle.usb_pipe.specs.declared.memory.MemoryPipes.{MemoryPipes}
use Rattle.usb_pipe.specs.declared.memory.Outward.{Outward}
use Rattle.usb_pipe.specs.declared.memory.Inward.{Inward}
use Rattle.usb_pipe.specs.declared.memory.Sending.{Sending}
use Rattle.usb_pipe.specs.declared.memory.Sending.TheVariants as sending
use Rattle.usb_pipe.specs.declared.memory.Receiving.{Receiving}
use Rattle.usb_pipe.specs.declared.memory.Receiving.TheVariants as receiving
use Rattle.usb_pipe.specs.Own.{Own, Sender, Receiver, sender, with_sender, with_receiver}

-- the size of a packet, and the most bytes that a pipe holds or has queued
abbrev pub packet_size : ℕ
packet_size = 64

abbrev pub most_bytes : ℕ
most_bytes = 256

abbrev pub in_phase_of : Sending → InPhase
in_phase_of sending.Closed = inward.Closed
in_phase_of sending.Rest = inward.Rest
in_phase_of (sending.Running bytes) = inward.Running (length bytes.items) (cut packet_size bytes.items)

abbrev pub out_phase_of : Receiving → OutPhase
out_phase_of receiving.Closed = out.Closed false
out_phase_of receiving.Rest = out.Rest
out_phase_of receiving.Armed = out.Armed

abbrev pub sender_of : Outward → Sender
sender_of p = record {
  size = packet_size;
  capacity = most_bytes;
  pipe = record { queue = p.queue.items; phase = in_phase_of p.phase; loaded = 0; toggle = D0; halted = p.halted };
}

abbrev pub receiver_of : Inward → Receiver
receiver_of p = record {
  capacity = most_bytes;
  pipe = record { phase = out_phase_of p.phase; halted = p.halted; toggle = D0; held = p.held.items };
}

abbrev pub own_of : MemoryPipes → Own
own_of p = record { sends = sender_of p.sends; receives = receiver_of p.receives; notifies = sender_of p.notifies }

-- no session stands, and one begins
abbrev pub shut_sender : Sender
shut_sender = record { size = packet_size; capacity = most_bytes; pipe = inward.closed }

abbrev pub fresh_sender : Sender
fresh_sender = record { size = packet_size; capacity = most_bytes; pipe = inward.opened }

abbrev pub shut_pipes : Own
shut_pipes = record { sends = shut_sender; receives = record { capacity = most_bytes; pipe = out.unopened }; notifies = shut_sender }

abbrev pub fresh_pipes : Own
fresh_pipes = record {
  sends = fresh_sender;
  receives = record { capacity = most_bytes; pipe = out.opened out.unopened };
  notifies = fresh_sender;
}

-- the transfer that runs
abbrev pub IsIdle : Sender → Type 0
IsIdle s = inward.at_rest s.pipe.phase ≡ s.pipe.phase

abbrev pub Runs : Sender → List ℕ → Type 0
Runs s bytes = s.pipe.phase ≡ inward.Running (length bytes) (cut packet_size bytes)

abbrev pub size_at : InPhase → ℕ
size_at (inward.Running n left) = n
size_at inward.Closed = 0
size_at inward.Rest = 0
size_at (inward.Posted n) = 0

abbrev pub running_size : Sender → ℕ
running_size s = size_at s.pipe.phase

-- the host took all its bytes, and the class is told
abbrev pub ended_sender : Sender → Sender
ended_sender s = record s { pipe = record s.pipe { queue = drop (running_size s) s.pipe.queue; phase = inward.at_rest s.pipe.phase } }

abbrev pub after_transfer : Own → ℕ → Own
after_transfer own n = with_sender own n (ended_sender (sender own n))

-- a packet came, and the class is told
abbrev pub arrived : OutPhase → OutPhase
arrived out.Armed = out.Rest
arrived (out.Closed over) = out.Closed over
arrived out.Rest = out.Rest
arrived (out.Landed packet) = out.Landed packet
arrived out.Posted = out.Posted
arrived out.Stale = out.Stale

abbrev pub receiver_with : Receiver → List ℕ → Receiver
receiver_with r bytes = record r { pipe = record r.pipe { held = r.pipe.held ++ take (r.capacity - length r.pipe.held) bytes; phase = arrived r.pipe.phase } }

abbrev pub with_packet : Own → List ℕ → Own
with_packet own bytes = with_receiver own (receiver_with own.receives bytes)

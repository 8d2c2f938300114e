-- What each bus event makes of an OUT endpoint of the whole controller.
use Rattle.std.specs.Prelude.{◌≡◌, ℕ, suc, ◌<◌, ◌≤◌, ◌==◌, ◌&&◌, Bool, if◌then◌else◌, IsTrue, List, length}
use Rattle.usb_packet.specs.declared.bus.Toggle.{Toggle}
use Rattle.usb_packet.specs.declared.bus.BusEvent.{BusEvent}
use Rattle.usb_packet.specs.declared.bus.BusEvent.TheVariants as event
use Rattle.usb_ring.specs.Ring.{Ring}
use Rattle.device_pipe.specs.OutPipe.{OutPipe}
use Rattle.dwc2_fifo.specs.Rx.{room_of}
use Rattle.device_table.specs.State.{Table, out_end}
use Rattle.device_table.specs.Bus.{hears, bus_answer, after_bus}
use Rattle.endpoint_relation.specs.declared.out_.OutEndpoint.{OutEndpoint}
use Rattle.endpoint_relation.specs.OutRelation.{OutStands, OutStandsFor, abstract_out, is_ready}
use Rattle.endpoint_relation.specs.OutSteps.{packet_answer, pipe_after}
use Rattle.endpoint_relation.specs.OutTable.{IsFull, arrivals_in}

-- the endpoint of a number in the controller, with what lies of it in the receive FIFO, and the pipe that it is
abbrev pub OutStandsIn : Table → ℕ → OutEndpoint → Ring → Type 0
OutStandsIn t number s ring = OutStands number (out_end t number) s (arrivals_in number t.rx.entries) ring

abbrev pub out_pipe_in : Table → ℕ → OutEndpoint → Ring → OutPipe
out_pipe_in t number s ring = abstract_out (out_end t number) s (arrivals_in number t.rx.entries) ring.bytes

abbrev pub OutStandsInFor : Table → ℕ → OutEndpoint → Ring → OutPipe → Type 0
OutStandsInFor t number s ring is = OutStandsFor number (out_end t number) s (arrivals_in number t.rx.entries) ring is

-- a packet from the host has at most 64 bytes
abbrev pub IsOutEvent : BusEvent → Type 0
IsOutEvent event.Reset = Unit {0}
IsOutEvent (event.Setup addr bytes ok) = Unit {0}
IsOutEvent (event.Out addr ep toggle packet ok) = IsFull packet
IsOutEvent (event.In addr ep ok) = Unit {0}

-- one for the endpoint makes of its pipe what it makes of that; every other event leaves the pipe
abbrev pub pipe_after_event : Table → ℕ → OutEndpoint → OutPipe → BusEvent → OutPipe
pipe_after_event t number s pipe event.Reset = pipe
pipe_after_event t number s pipe (event.Setup addr bytes ok) = pipe
pipe_after_event t number s pipe (event.Out addr ep toggle packet ok) = if ep == number then pipe_after s pipe toggle packet (hears t addr && ok) else pipe
pipe_after_event t number s pipe (event.In addr ep ok) = pipe

-- where the next packet is taken, the receive FIFO has place for one of 64 bytes: two words of status and 16 of data
abbrev pub HasPlace : Table → ℕ → OutEndpoint → Type 0
HasPlace t number s = IsTrue (is_ready s.state (arrivals_in number t.rx.entries)) → 18 ≤ room_of t.rx

-- each event keeps what holds of each OUT endpoint of the controller, of at most 15
abbrev pub OutEventsKeep : Type 0
OutEventsKeep =
    (t : Table) (n : ℕ) (s : OutEndpoint) (ring : Ring) (e : BusEvent) → n < length t.outs → length t.outs ≤ 15 → IsOutEvent e
    → OutStandsIn t (suc n) s ring → HasPlace t (suc n) s
    → OutStandsInFor (after_bus t e) (suc n) s ring (pipe_after_event t (suc n) s (out_pipe_in t (suc n) s ring) e)

-- and the controller answers a packet for it as its pipe does
abbrev pub OutEventsAnswer : Type 0
OutEventsAnswer =
    (t : Table) (n : ℕ) (s : OutEndpoint) (ring : Ring) (addr : ℕ) (toggle : Toggle) (packet : List ℕ) (ok : Bool) → IsFull packet
    → OutStandsIn t (suc n) s ring → HasPlace t (suc n) s
    → bus_answer t (event.Out addr (suc n) toggle packet ok) ≡ packet_answer s (out_pipe_in t (suc n) s ring) packet (hears t addr && ok)

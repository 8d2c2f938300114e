-- Which OUT pipe the registers of one endpoint other than 0, the driver's software, the packets of it in the receive FIFO and
-- its ring are together, and what holds of them.
use Rattle.std.specs.Prelude.{◌≡◌, ℕ, ◌+◌, ◌<◌, ◌≤◌, Bool, true, false, not, if◌then◌else◌, IsTrue, List, [], ◌∷◌, length, slice_index}
use Rattle.usb_packet.specs.declared.bus.Toggle.{Toggle}
use Rattle.usb_packet.specs.declared.bus.Toggle.TheVariants.{D0}
use Rattle.usb_packet.specs.declared.bus.Owner.TheVariants.{Core}
use Rattle.usb_descriptor.specs.declared.endpoint.Endpoint.{Endpoint}
use Rattle.usb_descriptor.specs.declared.endpoint.EpKind.TheVariants.{Bulk}
use Rattle.usb_descriptor.specs.Set.{is_core}
use Rattle.device_arrivals.specs.Arrivals.{Landed}
use Rattle.usb_ring.specs.Ring.{Ring}
use Rattle.device_pipe.specs.OutPipe as pipe
use Rattle.device_pipe.specs.OutPipe.{OutPhase, OutPipe}
use Rattle.dwc2_regs.specs.declared.TheConstants.{DOEPCTL_SIZE, DOEPCTL_USBAEP}
use Rattle.dwc2_regs.specs.Field.{field_of}
use Rattle.device_table.specs.State.{Control, OutEnd}
use Rattle.device_table.specs.Words.{flag, size_counted}
use Rattle.endpoint_relation.specs.declared.out_.OutState.{OutState}
use Rattle.endpoint_relation.specs.declared.out_.OutState.TheVariants.{Closed, Rest, Armed, Posted, Stale}
use Rattle.endpoint_relation.specs.declared.out_.OutEndpoint.{OutEndpoint}
use Rattle.endpoint_relation.specs.OutWords.{shows_stall, one_packet}

-- What the driver keeps where no endpoint of the number is open.

abbrev pub no_endpoint : Endpoint
no_endpoint = record { addr = 0; kind = Bulk; size = 0; owner = Core }

-- there `over` alone tells something
abbrev pub not_open : Bool → OutEndpoint
not_open over = record { endpoint = no_endpoint; state = Closed; halted = false; over = over }

abbrev pub is_open : OutState → Bool
is_open Closed = false
is_open Rest = true
is_open Armed = true
is_open Posted = true
is_open Stale = true

-- The pipe.

-- one that is armed took a packet where one lies in the receive FIFO
abbrev pub armed_phase : List Landed → OutPhase
armed_phase [] = pipe.Armed
armed_phase (arrival ∷ arrived) = pipe.Landed arrival.bytes

abbrev pub phase_of : OutState → Bool → List Landed → OutPhase
phase_of Closed over arrived = pipe.Closed over
phase_of Rest over arrived = pipe.Rest
phase_of Armed over arrived = armed_phase arrived
phase_of Posted over arrived = pipe.Posted
phase_of Stale over arrived = pipe.Stale

-- the controller keeps the toggle, which counts where the endpoint is open
abbrev pub toggle_of : OutState → Toggle → Toggle
toggle_of state toggle = if is_open state then toggle else D0

abbrev pub abstract_out : OutEnd → OutEndpoint → List Landed → List ℕ → OutPipe
abstract_out end s arrived held = record {
  phase = phase_of s.state s.over arrived;
  halted = s.halted;
  toggle = toggle_of s.state end.toggle;
  held = held;
}

-- What holds, part by part.

pub record IsPacket (most : ℕ) (packet : Landed) : Type 0 where
  pub fits : length packet.bytes ≤ most
  pub below : (i : ℕ) → slice_index packet.bytes i < 256

-- what lies in the receive FIFO, by what the driver keeps: the packet that an armed endpoint of this size took, or one that was
-- dropped with the pipe, whose endpoint had any size
pub data Lies (size : ℕ) : OutState → Bool → List Landed → Type 0 where
  closed : Lies size Closed false []
  closed_over : {packet : Landed} → IsPacket 64 packet → Lies size Closed true (packet ∷ [])
  at_rest : Lies size Rest false []
  armed : Lies size Armed false []
  landed : {packet : Landed} → IsPacket size packet → Lies size Armed false (packet ∷ [])
  posted : Lies size Posted false []
  stale : {packet : Landed} → IsPacket 64 packet → Lies size Stale true (packet ∷ [])

-- the next packet is taken
abbrev pub is_ready : OutState → List Landed → Bool
is_ready Armed [] = true
is_ready Armed (arrival ∷ arrived) = false
is_ready Closed arrived = false
is_ready Rest arrived = false
is_ready Posted arrived = false
is_ready Stale arrived = false

-- an endpoint other than 0 is open to the bus where it has USBAEP, and its size is the number in the register
abbrev pub is_used : Control → Bool
is_used control = flag control.kept DOEPCTL_USBAEP

abbrev pub size_in : Control → ℕ
size_in control = size_counted (field_of control.kept DOEPCTL_SIZE)

-- the registers: the endpoint has the size, shows the halt, has a transfer of one packet exactly where the next packet is
-- taken, and answers NAK elsewhere. No interrupt of it is left.
pub record Registers (end : OutEnd) (used_is : Bool) (size : ℕ) (stalls ready : Bool) : Type 0 where
  pub used : is_used end.control ≡ used_is
  pub sized : IsTrue used_is → size_in end.control ≡ size
  pub stall : end.control.stall ≡ stalls
  pub enabled : end.control.enabled ≡ ready
  pub naks : IsTrue used_is → end.control.nak ≡ not ready
  pub counted : IsTrue ready → end.tsiz ≡ one_packet size
  pub xfrc : end.xfrc ≡ false
  pub epdisd : end.epdisd ≡ false

-- no packet was asked for, so none was moved
abbrev pub is_unasked : OutState → Bool
is_unasked Closed = true
is_unasked Rest = true
is_unasked Stale = true
is_unasked Armed = false
is_unasked Posted = false

abbrev pub is_armed : OutState → Bool
is_armed Armed = true
is_armed Closed = false
is_armed Rest = false
is_armed Posted = false
is_armed Stale = false

-- the software and the ring: an endpoint is open under its number, the packet that it is armed for has room, and the core arms
-- none
pub record Software (number : ℕ) (s : OutEndpoint) (ring : Ring) : Type 0 where
  pub number_is : IsTrue (is_open s.state) → s.endpoint.addr ≡ number
  pub some : IsTrue (is_open s.state) → 1 ≤ s.endpoint.size
  pub most : s.endpoint.size ≤ 64
  pub room : IsTrue (is_armed s.state) → length ring.bytes + s.endpoint.size ≤ ring.capacity
  pub core : IsTrue (is_core s.endpoint.owner) → IsTrue (is_unasked s.state)
  pub core_held : IsTrue (is_core s.endpoint.owner) → ring.bytes ≡ []
  pub closed : IsTrue (not (is_open s.state)) → s ≡ not_open s.over

pub record OutStands (number : ℕ) (end : OutEnd) (s : OutEndpoint) (arrived : List Landed) (ring : Ring) : Type 0 where
  pub lies : Lies s.endpoint.size s.state s.over arrived
  pub registers : Registers end (is_open s.state) s.endpoint.size (shows_stall s) (is_ready s.state arrived)
  pub software : Software number s ring

-- all agrees, and the endpoint is that pipe
pub record OutStandsFor (number : ℕ) (end : OutEnd) (s : OutEndpoint) (arrived : List Landed) (ring : Ring) (is : OutPipe) : Type 0 where
  pub stands : OutStands number end s arrived ring
  pub pipe : abstract_out end s arrived ring.bytes ≡ is

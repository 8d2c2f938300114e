-- Which IN pipe an endpoint of the controller, what the driver keeps of it and its ring are together, and what holds of
-- them.
use Rattle.std.specs.Prelude.{◌≡◌, ℕ, zero, suc, ◌-◌, ◌<◌, ◌≤◌, ◌&&◌, not, min, Bool, true, false, IsTrue, List, [], ◌∷◌, length, take, drop, None, slice_index}
use Rattle.usb_packet.specs.declared.bus.Owner.TheVariants.{Core}
use Rattle.usb_packet.specs.declared.bus.Toggle.{Toggle}
use Rattle.usb_packet.specs.declared.bus.Toggle.TheVariants.{D0}
use Rattle.usb_descriptor.specs.declared.endpoint.Endpoint.{Endpoint}
use Rattle.usb_descriptor.specs.declared.endpoint.EpKind.TheVariants.{Bulk}
use Rattle.usb_descriptor.specs.Set.{is_core}
use Rattle.dwc2_regs.specs.declared.TheConstants.{DIEPTSIZ_SIZE, DIEPTSIZ_COUNT}
use Rattle.dwc2_regs.specs.Field.{field_of}
use Rattle.dwc2_fifo.specs.Tx.{Tx, Tagged}
use Rattle.device_table.specs.State.{InEnd, tx_depth}
use Rattle.device_pipe.specs.InPipe as pipe
use Rattle.device_pipe.specs.InPipe.{InPipe, InPhase, cut, most_loaded}
use Rattle.endpoint_relation.specs.declared.in_.InState.{InState}
use Rattle.endpoint_relation.specs.declared.in_.InState.TheVariants.{Closed, Rest, Running, Posted}
use Rattle.endpoint_relation.specs.declared.in_.InEndpoint.{InEndpoint}
use Rattle.endpoint_relation.specs.InWords.{in_open_bits}

-- the endpoint's registers and FIFO, the software, and the bytes in the ring
pub record InJoint : Type 0 where
  pub end : InEnd
  pub software : InEndpoint
  pub ring : List ℕ

-- an endpoint that isn't open
abbrev pub no_endpoint : Endpoint
no_endpoint = record { addr = 0; kind = Bulk; size = 0; owner = Core }

abbrev pub in_unused : InEndpoint
in_unused = record { endpoint = no_endpoint; state = Closed; halted = false; bytes = 0; sent = 0; left = 0; loaded = 0 }

-- The pipe.

-- the bytes of the transfer that are in no packet which the driver found acknowledged
abbrev pub bytes_left : InEndpoint → List ℕ → List ℕ
bytes_left s ring = drop s.sent (take s.bytes ring)

-- their packets; a transfer whose packets are all acknowledged has none
abbrev pub packets_if : ℕ → ℕ → List ℕ → List (List ℕ)
packets_if zero size bytes = []
packets_if (suc left) size bytes = cut size bytes

abbrev pub packets_left : InEndpoint → List ℕ → List (List ℕ)
packets_left s ring = packets_if s.left s.endpoint.size (bytes_left s ring)

-- how many packets lie ready for the bus: where some were loaded, the count in DIEPTSIZx
abbrev pub ready_if : ℕ → ℕ → ℕ
ready_if zero count = 0
ready_if (suc loaded) count = count

abbrev pub ready_count : InEnd → InEndpoint → ℕ
ready_count end s = ready_if s.loaded (field_of end.tsiz DIEPTSIZ_COUNT)

-- the packets that the bus hasn't acknowledged
abbrev pub not_acknowledged : InEnd → InEndpoint → List ℕ → List (List ℕ)
not_acknowledged end s ring = drop (s.loaded - ready_count end s) (packets_left s ring)

abbrev pub in_phase : InState → ℕ → List (List ℕ) → InPhase
in_phase Closed n left = pipe.Closed
in_phase Rest n left = pipe.Rest
in_phase Running n left = pipe.Running n left
in_phase Posted n left = pipe.Posted n

abbrev pub in_toggle : InState → Toggle → Toggle
in_toggle Closed toggle = D0
in_toggle Rest toggle = toggle
in_toggle Running toggle = toggle
in_toggle Posted toggle = toggle

abbrev pub abstract_in : InJoint → InPipe
abstract_in j = record {
  queue = j.ring;
  phase = in_phase j.software.state j.software.bytes (not_acknowledged j.end j.software j.ring);
  loaded = ready_count j.end j.software;
  toggle = in_toggle j.software.state j.end.toggle;
  halted = j.software.halted;
}

-- What holds of registers, FIFO, software and ring.

-- an endpoint answers STALL where it is halted, but for one of the core, which answers NAK
abbrev pub stalls : InEndpoint → Bool
stalls s = s.halted && not (is_core s.endpoint.owner)

-- the bits that DIEPCTLx keeps
abbrev pub in_kept : InState → ℕ → Endpoint → ℕ
in_kept Closed number e = 0
in_kept Rest number e = in_open_bits number e
in_kept Running number e = in_open_bits number e
in_kept Posted number e = in_open_bits number e

abbrev pub is_some_of : ℕ → Bool
is_some_of zero = false
is_some_of (suc n) = true

-- the packets that lie ready
abbrev pub ready_packets : InJoint → List (List ℕ)
ready_packets j = take (ready_count j.end j.software) (not_acknowledged j.end j.software j.ring)

-- a FIFO with these packets; an empty one has no words there
abbrev pub tagged : List (List ℕ) → List Tagged
tagged [] = []
tagged ([] ∷ packets) = tagged packets
tagged ((byte ∷ bytes) ∷ packets) = record { tag = 0; bytes = byte ∷ bytes } ∷ tagged packets

abbrev pub fifo_of : List (List ℕ) → Tx
fifo_of packets = record { packets = tagged packets; unfinished = None; depth = tx_depth }

-- the size in DIEPTSIZx is 0 exactly where the packet is empty, and then it is the only one
abbrev pub IsSized : ℕ → List (List ℕ) → Type 0
IsSized size [] = Unit {0}
IsSized size ([] ∷ packets) = (size ≡ 0) × (packets ≡ [])
IsSized size ((byte ∷ bytes) ∷ packets) = (1 ≤ size) × IsSized size packets

-- an endpoint of a set that is open
pub record IsOpened (e : Endpoint) : Type 0 where
  pub least : 1 ≤ e.size
  pub most : e.size ≤ 64

-- what is loaded are two packets of a transfer, or the last one
abbrev pub IsLoad : ℕ → ℕ → Type 0
IsLoad zero left = Unit {0}
IsLoad (suc loaded) left = suc loaded ≡ min most_loaded left

-- a transfer lies in the ring
pub record IsTransfer (s : InEndpoint) (ring : List ℕ) : Type 0 where
  pub opened : IsOpened s.endpoint
  pub class : is_core s.endpoint.owner ≡ false
  pub within : s.bytes ≤ length ring
  pub sent : s.sent ≤ s.bytes
  pub left : s.left ≡ length (packets_left s ring)
  pub load : IsLoad s.loaded s.left

pub record IsPosted (s : InEndpoint) : Type 0 where
  pub opened : IsOpened s.endpoint
  pub class : is_core s.endpoint.owner ≡ false
  pub load : s.loaded ≡ 0

pub record IsAtRest (s : InEndpoint) : Type 0 where
  pub opened : IsOpened s.endpoint
  pub load : s.loaded ≡ 0

pub record IsClosed (s : InEndpoint) (ring : List ℕ) : Type 0 where
  pub unused : s ≡ in_unused
  pub empty : ring ≡ []

abbrev pub Holds : InState → InEndpoint → List ℕ → Type 0
Holds Closed s ring = IsClosed s ring
Holds Rest s ring = IsAtRest s
Holds Running s ring = IsTransfer s ring
Holds Posted s ring = IsPosted s

pub record InStands (number : ℕ) (j : InJoint) : Type 0 where
  pub kept : j.end.control.kept ≡ in_kept j.software.state number j.software.endpoint
  pub stall : j.end.control.stall ≡ stalls j.software
  -- enabled exactly where packets lie ready, and then it gets no NAK
  pub enabled : j.end.control.enabled ≡ is_some_of (ready_count j.end j.software)
  pub nak : IsTrue (is_some_of j.software.loaded) → j.end.control.nak ≡ false
  -- XFRC exactly where all that was loaded is acknowledged
  pub xfrc : j.end.xfrc ≡ (is_some_of j.software.loaded && not (is_some_of (ready_count j.end j.software)))
  -- no interrupt is left from disabling
  pub epdisd : j.end.epdisd ≡ false
  pub count : ready_count j.end j.software ≤ j.software.loaded
  pub size : IsSized (field_of j.end.tsiz DIEPTSIZ_SIZE) (ready_packets j)
  pub fifo : j.end.fifo ≡ fifo_of (ready_packets j)
  pub holds : Holds j.software.state j.software j.ring
  -- the ring has bytes
  pub bytes : (i : ℕ) → slice_index j.ring i < 256

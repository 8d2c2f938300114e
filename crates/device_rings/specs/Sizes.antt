-- How many bytes the ring of an endpoint has room for: as many as its class lets wait.
use Rattle.std.specs.Prelude.{ℕ, ◌+◌, List, [], ◌∷◌, Option, None, Some, map, find}
use Rattle.usb_packet.specs.declared.bus.Owner.{Owner}
use Rattle.usb_packet.specs.declared.bus.Owner.TheVariants.{Core, Cdc, Hid, Msc, Midi}
use Rattle.usb_descriptor.specs.declared.endpoint.EpKind.{EpKind}
use Rattle.usb_descriptor.specs.declared.endpoint.EpKind.TheVariants.{Bulk, Interrupt}
use Rattle.usb_descriptor.specs.declared.endpoint.Endpoint.{Endpoint}
use Rattle.usb_descriptor.specs.Set.{is_addressed}
use Rattle.usb_ring.specs.Ring.{Ring}
use Rattle.device_rings.specs.Rings.{Rings}

-- of a class's endpoint by its kind; the notification pipe of a serial port is its one interrupt endpoint (CDC 1.2, 3.4.1)
abbrev pub class_size : Owner → EpKind → ℕ
class_size Core kind = 0
class_size Cdc Bulk = 256
class_size Cdc Interrupt = 16
class_size Hid kind = 64
class_size Msc kind = 512
class_size Midi kind = 256

abbrev pub ring_size : Endpoint → ℕ
ring_size e = class_size e.owner e.kind

-- what isn't there has no room
abbrev pub size_of : Option Endpoint → ℕ
size_of None = 0
size_of (Some e) = ring_size e

-- the size of the ring at an address, among these endpoints
abbrev pub size_at : List Endpoint → ℕ → ℕ
size_at endpoints address = size_of (find (is_addressed address) endpoints)

abbrev pub empty : ℕ → Ring
empty size = record { bytes = []; capacity = size }

-- the empty ring at an address; the endpoints of the core have none
abbrev pub ring_for : List Endpoint → ℕ → Ring
ring_for endpoints address = empty (size_at endpoints address)

-- the numbers that the controller has in each direction (RM0090, OTG_FS)
abbrev pub numbers : List ℕ
numbers = 1 ∷ 2 ∷ 3 ∷ []

-- the rings of these endpoints, all empty
abbrev pub rings_of : List Endpoint → Rings
rings_of endpoints = record {
  outs = map (λ n. ring_for endpoints n) numbers;
  ins = map (λ n. ring_for endpoints (128 + n)) numbers;
}

-- What a task needs of endpoint 0 before it gives it a stage, and what it does to the other endpoints.
use Rattle.std.specs.Prelude.{◌≡◌, if◌then◌else◌, ℕ, Bool, true, IsTrue, List, Option, Some, None}
use Rattle.usb_descriptor.specs.declared.endpoint.Endpoint.{Endpoint}
use Rattle.dwc2_regs.specs.declared.access.Profile.{Profile}
use Rattle.device_owners.specs.Device.{endpoint_in}
use Rattle.device_machine.specs.Pipes.{Pipes, is_open_at, with_endpoints_open, session_pipes, without_halt_if, without_halts}
use Rattle.device_rings.specs.Capacities.{capacities_of}
use Rattle.device_relation.specs.PipeRelation.{IsSound}
use Rattle.device_relation.specs.Port.{Port, may_start}
use Rattle.access_order.specs.Phase.{serving}
use Rattle.dwc2_device.specs.Driver.{Driver, joint, Has, Spends}
use Rattle.dwc2_device.specs.Order.{Goes}
use Rattle.usbd_core.specs.Device.{Device, KeepsAddress, Fits, port_in}

-- controller, driver and software agree, but for the notes
abbrev pub Holds : Profile → Device → Type 0
Holds profile d = IsSound profile (joint d.port) d.rings × Fits profile d.set (port_in d) d.state d.transfer

-- what a part of a task needs: they agree, so many accesses may be made, and nothing is due on the bus
abbrev pub Needs : Profile → ℕ → Device → Type 0
Needs profile n d = Holds profile d × Has n d.port.bank

-- accesses that were in order go on so
abbrev pub GoesInOrder : Driver → Driver → Type 0
GoesInOrder = Goes (serving 0) (serving 0)

-- and what it leaves: they agree again, at most so many accesses were made, in order, and the descriptors are the same, and the rings
-- have the same room
abbrev pub Leaves : Profile → ℕ → Device → Device → Type 0
Leaves profile n old new = Holds profile new × Spends n old.port.bank new.port.bank × (new.set ≡ old.set) × GoesInOrder old.port new.port × (capacities_of new.rings ≡ capacities_of old.rings)

-- A SETUP came since the last reset, and nothing is on its way on endpoint 0. What waits there brings no address.
pub record IsFree (p : Port) : Type 0 where
  pub may : IsTrue (may_start p.bus.side)
  pub heard : p.heard ≡ true
  pub plain : KeepsAddress p.bus.side p.next_address None

-- so it is while the note of a SETUP waits
abbrev pub IsFreeFor : Option (List ℕ) → Port → Type 0
IsFreeFor None p = Unit {0}
IsFreeFor (Some bytes) p = IsFree p

-- with these endpoints opened; with these and no others; with the halts ended of those that are named
abbrev pub with_endpoints : Port → List Endpoint → Port
with_endpoints p endpoints = record p { pipes = with_endpoints_open p.pipes endpoints }

abbrev pub with_session : Port → List Endpoint → Port
with_session p endpoints = record p { pipes = session_pipes endpoints p.pipes }

abbrev pub with_halt_ended_if : Bool → Port → ℕ → Port
with_halt_ended_if named p address = record p { pipes = without_halt_if named p.pipes address }

abbrev pub with_halts_ended : (ℕ → Bool) → Port → List Endpoint → Port
with_halts_ended named p endpoints = record p { pipes = without_halts named p.pipes endpoints }

-- the endpoint at an address, where it is open
abbrev pub open_endpoint : Pipes → ℕ → Option Endpoint
open_endpoint pipes a = if is_open_at pipes a then Some (endpoint_in pipes a) else None

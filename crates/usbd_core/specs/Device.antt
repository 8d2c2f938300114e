-- A device: its descriptors, its driver with the controller, the rings of its endpoints, and what its software keeps beside
-- them; the core that they are together, and what holds of them.
use Rattle.std.specs.Prelude.{◌≡◌, ℕ, Bool, true, false, not, List, Option, Some, None}
use Rattle.dwc2_regs.specs.declared.access.Profile.{Profile}
use Rattle.usb_descriptor.specs.declared.limits.EpLimits.{EpLimits}
use Rattle.usb_descriptor.specs.Set.{Set, endpoints_of}
use Rattle.usb_descriptor.specs.Served.{AreServed}
use Rattle.device_machine.specs.declared.control.Stage.{Stage}
use Rattle.device_machine.specs.declared.control.Stage.TheVariants.{Sent, Came}
use Rattle.device_machine.specs.declared.control.Side.{Side}
use Rattle.device_machine.specs.declared.control.Side.TheVariants.{Off, Wait, Loaded, Last, Armed, Stall, Finished}
use Rattle.device_machine.specs.Bus.{Bus}
use Rattle.device_owners.specs.Device.{Core, Transfer, Idle, Sending, Taking, Ending, Addressing, Foreign}
use Rattle.device_owners.specs.Device.{Device as Whole, Machinery}
use Rattle.device_owners.specs.Knows.{knows_all}
use Rattle.device_owners.specs.Calls.{no_calls}
use Rattle.usb_pipe.specs.Rules.{Rules}
use Rattle.usb_packet.specs.declared.bus.Owner.{Owner}
use Rattle.usb_pipe.specs.Classes.{Classes}
use Rattle.device_rings.specs.Rings.{Rings}
use Rattle.device_relation.specs.Relation.{abstract}
use Rattle.device_relation.specs.PipeRelation.{IsSound, pipes_of}
use Rattle.device_relation.specs.Port.{Port, port_of}
use Rattle.dwc2_device.specs.Driver.{Driver, joint}
use Rattle.usbd_core.specs.declared.state.DevState.{DevState}
use Rattle.usbd_core.specs.declared.transfer.Transfer as declared
use Rattle.usbd_core.specs.declared.transfer.Transfer.TheVariants as transfer

pub record Device : Type 0 where
  -- its descriptors
  pub set : Set
  -- the driver with the controller
  pub port : Driver
  -- the rings of its endpoints
  pub rings : Rings
  -- its address, and whether a session stands
  pub state : DevState
  -- the notes that no task has taken
  pub finished : Option Stage
  pub request : Option (List ℕ)
  -- the control transfer that runs
  pub transfer : Transfer

-- the transfer that the software keeps, with the packets that it has for a data stage
abbrev pub transfer_of : declared.Transfer → List (List ℕ) → Transfer
transfer_of transfer.Idle packets = Idle
transfer_of transfer.Data packets = Sending packets
transfer_of (transfer.Take o setup) packets = Taking o setup
transfer_of transfer.Status packets = Ending
transfer_of (transfer.Address n) packets = Addressing n

-- what the bus sees of it
abbrev pub bus_of : Device → Bus
bus_of d = abstract (joint d.port)

-- the core that it is
abbrev pub core_of : Device → Core
core_of d = record {
  bus = bus_of d;
  pipes = pipes_of (joint d.port) d.rings;
  session = d.state.configured;
  finished = d.finished;
  request = d.request;
  transfer = d.transfer;
}

-- the device that it is with its classes
abbrev pub seen : {S : Type 0} → Device → Classes S → Whole S
seen d classes = record { core = core_of d; classes = classes }

-- with these classes it knows all owners; no step asks what the classes held at the start, or for their calls
abbrev pub machinery : {S : Type 0} → (Owner → Rules S) → Set → Classes S → Machinery S
machinery rules set classes = record { world = record { set = set; rules = rules; calls = λ o. no_calls; first = classes }; knows = knows_all }

-- the device that its driver has, with the driver's notes
abbrev pub port_in : Device → Port
port_in d = port_of (joint d.port) d.rings

-- What holds of it between two calls.

-- the driver has no note left
pub record IsQuiet (p : Port) : Type 0 where
  pub reset : p.reset ≡ false
  pub finished : p.finished ≡ None
  pub request : p.request ≡ None

-- a note waits for a task
abbrev pub has_note : Option Stage → Option (List ℕ) → Bool
has_note None None = false
has_note None (Some bytes) = true
has_note (Some stage) request = true

-- the address that a transfer brings with the end of its status stage (USB 2.0, 9.4.6)
abbrev pub address_of : Transfer → Option ℕ
address_of (Addressing n) = Some n
address_of Idle = None
address_of (Sending packets) = None
address_of (Taking o setup) = None
address_of Foreign = None
address_of Ending = None

-- while endpoint 0 holds something, the driver keeps that address
abbrev pub KeepsAddress : Side → Option ℕ → Option ℕ → Type 0
KeepsAddress Off next due = Unit {0}
KeepsAddress (Wait packet last) next due = next ≡ due
KeepsAddress (Loaded packet) next due = next ≡ due
KeepsAddress (Last packet) next due = next ≡ due
KeepsAddress Armed next due = next ≡ due
KeepsAddress Stall next due = next ≡ due
KeepsAddress (Finished stage) next due = next ≡ due

-- and that status stage is a packet for the host: endpoint 0 takes none from it
abbrev pub is_for_host : Side → Bool
is_for_host Off = true
is_for_host (Wait packet last) = not last
is_for_host (Loaded packet) = true
is_for_host (Last packet) = false
is_for_host Armed = false
is_for_host Stall = true
is_for_host (Finished Sent) = true
is_for_host (Finished (Came bytes)) = false

abbrev pub GivesStatus : Transfer → Side → Type 0
GivesStatus (Addressing n) side = is_for_host side ≡ true
GivesStatus Idle side = Unit {0}
GivesStatus (Sending packets) side = Unit {0}
GivesStatus (Taking o setup) side = Unit {0}
GivesStatus Foreign side = Unit {0}
GivesStatus Ending side = Unit {0}

-- the controller's numbers are those of its profile
abbrev pub tops : Profile → EpLimits
tops profile = record { in_top = profile.in_eps; out_top = profile.out_eps; report_known = true }

-- what the software keeps is what the driver's device has
pub record Fits (profile : Profile) (set : Set) (p : Port) (state : DevState) (transfer : Transfer) : Type 0 where
  pub quiet : IsQuiet p
  pub address : state.addr ≡ p.bus.address
  pub served : AreServed (tops profile) (endpoints_of set.config)
  pub keeps : KeepsAddress p.bus.side p.next_address (address_of transfer)
  pub status : GivesStatus transfer p.bus.side

-- while a note waits for a task, endpoint 0 holds nothing, and a SETUP came since the reset
abbrev pub Rests : Port → Option Stage → Option (List ℕ) → Type 0
Rests p finished request = has_note finished request ≡ true → (p.bus.side ≡ Off) × (p.heard ≡ true)

-- controller and driver agree, and the software with them
pub record Agrees (profile : Profile) (d : Device) : Type 0 where
  pub sound : IsSound profile (joint d.port) d.rings
  pub fits : Fits profile d.set (port_in d) d.state d.transfer
  pub rests : Rests (port_in d) d.finished d.request

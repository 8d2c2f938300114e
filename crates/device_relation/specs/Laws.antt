-- What the bus does keeps the relation.
use Rattle.std.specs.Prelude.{◌≡◌, ℕ, [], false, length}
use Rattle.usb_packet.specs.declared.bus.BusEvent.{BusEvent}
use Rattle.usb_packet.specs.declared.bus.BusEvent.TheVariants as event
use Rattle.device_machine.specs.Bus as bus
use Rattle.dwc2_regs.specs.declared.access.Profile.{Profile}
use Rattle.device_table.specs.State.{opened}
use Rattle.device_table.specs.Bus as table
use Rattle.device_machine.specs.Pipes.{pipes_unopened}
use Rattle.device_rings.specs.Rings.{Rings, out_ring, in_ring}
use Rattle.device_relation.specs.Software.{Joint, unused}
use Rattle.device_relation.specs.Relation.{IsPacket, IsSetup, abstract}
use Rattle.device_relation.specs.PipeRelation.{IsSound, pipes_of}

-- a SETUP has eight bytes, and a packet at most 64
abbrev pub IsEvent : BusEvent → Type 0
IsEvent event.Reset = Unit {0}
IsEvent (event.Setup addr bytes ok) = IsSetup bytes
IsEvent (event.Out addr ep toggle packet ok) = IsPacket packet
IsEvent (event.In addr ep ok) = Unit {0}

-- the controller moves, and the software doesn't
abbrev pub after_event : Joint → BusEvent → Joint
after_event j e = record j { table = table.after_bus j.table e }

-- the controller answers what the device answers, it is the device's next state, and all still agree
pub record Keeps (profile : Profile) (j : Joint) (r : Rings) (e : BusEvent) : Type 0 where
  pub answer : table.bus_answer j.table e ≡ bus.bus_answer (abstract j) (pipes_of j r) e
  pub next : abstract (after_event j e) ≡ bus.bus_after (abstract j) e
  pub pipes : pipes_of (after_event j e) r ≡ bus.pipes_after (abstract j) (pipes_of j r) e
  pub sound : IsSound profile (after_event j e) r

abbrev pub BusKeeps : Profile → Type 0
BusKeeps profile = (j : Joint) (r : Rings) (e : BusEvent) → IsSound profile j r → IsEvent e → Keeps profile j r e

-- the opened state and a driver at its start are the device at its start
abbrev pub at_start : Profile → Joint
at_start profile = record { table = opened profile; software = unused profile false }

-- with rings that hold nothing
pub record AreEmpty (profile : Profile) (r : Rings) : Type 0 where
  pub outs : (n : ℕ) → (out_ring r n).bytes ≡ []
  pub ins : (n : ℕ) → (in_ring r n).bytes ≡ []
  pub out_count : length r.outs ≡ profile.out_eps
  pub in_count : length r.ins ≡ profile.in_eps

pub record Starts (profile : Profile) (r : Rings) : Type 0 where
  pub sound : IsSound profile (at_start profile) r
  pub device : abstract (at_start profile) ≡ bus.unconfigured false
  pub pipes : pipes_of (at_start profile) r ≡ pipes_unopened

abbrev pub AllStart : Profile → Type 0
AllStart profile = (r : Rings) → AreEmpty profile r → Starts profile r

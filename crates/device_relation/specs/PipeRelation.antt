-- Which pipes the controller, the driver's software and the rings are together, and what holds of them: the endpoints other
-- than 0, each by itself.
use Rattle.std.specs.Prelude.{◌≡◌, ◌<◌, ◌≤◌, ℕ, suc, List, length, map}
use Rattle.usb_ring.specs.Ring.{Ring}
use Rattle.dwc2_regs.specs.declared.access.Profile.{Profile}
use Rattle.device_table.specs.State.{Table, in_end, out_end}
use Rattle.device_arrivals.specs.Arrivals.{Landed, packets_at}
use Rattle.device_rings.specs.Rings.{Rings, out_ring, in_ring}
use Rattle.endpoint_relation.specs.OutRelation.{OutStands, abstract_out}
use Rattle.endpoint_relation.specs.InRelation.{InJoint, InStands, abstract_in}
use Rattle.device_machine.specs.Packets.{numbers_from}
use Rattle.device_machine.specs.Pipes.{Pipes, OutSlot, InSlot, top_number, out_slot, in_slot, no_out_slot, no_in_slot}
use Rattle.device_relation.specs.Software.{Software, Joint, out_kept, in_kept}
use Rattle.device_relation.specs.Relation.{Stands, abstract}

-- the endpoint of a number, with its pipe
abbrev pub out_slot_of : Table → Software → Rings → ℕ → OutSlot
out_slot_of t s r n = record {
  endpoint = (out_kept s n).endpoint;
  pipe = abstract_out (out_end t n) (out_kept s n) (packets_at n t.rx.entries) (out_ring r n).bytes;
}

abbrev pub in_joint : Table → Software → Rings → ℕ → InJoint
in_joint t s r n = record { end = in_end t n; software = in_kept s n; ring = (in_ring r n).bytes }

abbrev pub in_slot_of : Table → Software → Rings → ℕ → InSlot
in_slot_of t s r n = record { endpoint = (in_kept s n).endpoint; pipe = abstract_in (in_joint t s r n) }

-- all of them
abbrev pub pipes_of : Joint → Rings → Pipes
pipes_of j r = record {
  outs = map (out_slot_of j.table j.software r) (numbers_from 1 top_number);
  ins = map (in_slot_of j.table j.software r) (numbers_from 1 top_number);
}

-- one endpoint: registers, software, receive FIFO and ring agree, and it is the slot
pub record OutPipePart (t : Table) (s : Software) (r : Rings) (p : Pipes) (n : ℕ) : Type 0 where
  pub stands : OutStands (suc n) (out_end t (suc n)) (out_kept s (suc n)) (packets_at (suc n) t.rx.entries) (out_ring r (suc n))
  pub slot : out_slot p (suc n) ≡ out_slot_of t s r (suc n)

pub record InPipePart (t : Table) (s : Software) (r : Rings) (p : Pipes) (n : ℕ) : Type 0 where
  pub stands : InStands (suc n) (in_joint t s r (suc n))
  pub slot : in_slot p (suc n) ≡ in_slot_of t s r (suc n)

-- all of them, on a controller of this profile: each that it has, and no other one is open
pub record PipesStand (profile : Profile) (t : Table) (s : Software) (r : Rings) (p : Pipes) : Type 0 where
  pub outs : (n : ℕ) → n < profile.out_eps → OutPipePart t s r p n
  pub ins : (n : ℕ) → n < profile.in_eps → InPipePart t s r p n
  pub out_beyond : (n : ℕ) → profile.out_eps ≤ n → out_slot p (suc n) ≡ no_out_slot
  pub in_beyond : (n : ℕ) → profile.in_eps ≤ n → in_slot p (suc n) ≡ no_in_slot
  pub out_count : length p.outs ≡ top_number
  pub in_count : length p.ins ≡ top_number
  pub out_kepts : length s.outs ≡ profile.out_eps
  pub in_kepts : length s.ins ≡ profile.in_eps
  pub out_rings : length r.outs ≡ profile.out_eps
  pub in_rings : length r.ins ≡ profile.in_eps

-- controller, software and rings agree
pub record IsSound (profile : Profile) (j : Joint) (r : Rings) : Type 0 where
  pub zero : Stands profile j.table j.software (abstract j)
  pub pipes : PipesStand profile j.table j.software r (pipes_of j r)

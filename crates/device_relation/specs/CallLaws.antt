-- What a handler run and each call make of the device that controller, software and rings are.
use Rattle.std.specs.Prelude.{◌≡◌, ◌<◌, ◌≤◌, ◌+◌, ℕ, suc, Bool, true, false, IsTrue, List, length, slice_index}
use Rattle.usb_descriptor.specs.declared.endpoint.Endpoint.{Endpoint}
use Rattle.usb_descriptor.specs.Set.{is_core}
use Rattle.dwc2_regs.specs.declared.access.Profile.{Profile}
use Rattle.device_rings.specs.Rings.{out_ring, in_ring}
use Rattle.endpoint_relation.specs.declared.out_.OutState.TheVariants as out
use Rattle.endpoint_relation.specs.declared.in_.InState.TheVariants as inward
use Rattle.endpoint_relation.specs.OutRelation.{is_open}
use Rattle.endpoint_relation.specs.InRelation.{IsOpened}
use Rattle.endpoint_relation.specs.InLaws.{IsClosedIn, IsOpenIn, IsClass}
use Rattle.device_relation.specs.Software.{Joint, out_kept, in_kept}
use Rattle.device_relation.specs.Relation.{IsPacket}
use Rattle.device_relation.specs.Port.{Port, AllStandFor, after_handler, may_start, started, armed, stalled, addressed, with_endpoint, without_endpoints, halted_at, cleared_at, armed_at, read_at, started_at, written_at, dropped_at, noted_out, noted_in}
use Rattle.device_relation.specs.Run.{Whole, with_joint, in_joint_of, run, run_start, run_arm, run_stall, run_address, run_open_out, run_open_in, run_arm_out, run_start_in, run_halt_out, run_halt_in, run_clear_out, run_clear_in, run_drop_out, run_drop_in, run_read_out, run_write_in, run_note_out, run_note_in, run_close}

-- controller, software and rings stand for a device
abbrev pub Are : Profile → Whole → Port → Type 0
Are profile w p = AllStandFor profile w.joint w.rings p

-- for one device and no other
abbrev pub AreOne : Profile → Type 0
AreOne profile = (w : Whole) (p q : Port) → Are profile w p → Are profile w q → p ≡ q

abbrev pub RunServes : Profile → Type 0
RunServes profile = (w : Whole) (p : Port) → Are profile w p → Are profile (run profile w) (after_handler p)

-- Calls on endpoint 0.
pub record OnZero (profile : Profile) (w : Whole) (p : Port) : Type 0 where
  pub starts : (packet : List ℕ) (last : Bool) → IsTrue (may_start p.bus.side) → p.heard ≡ true → IsPacket packet → Are profile (with_joint w (run_start w.joint packet last)) (started p packet last)
  pub arms : IsTrue (may_start p.bus.side) → p.heard ≡ true → Are profile (with_joint w (run_arm w.joint)) (armed p)
  pub stalls : IsTrue (may_start p.bus.side) → Are profile (with_joint w (run_stall w.joint)) (stalled p)
  pub addresses : (address : ℕ) → address < 128 → Are profile (with_joint w (run_address w.joint address)) (addressed p address)

abbrev pub ServesZero : Profile → Type 0
ServesZero profile = (w : Whole) (p : Port) → Are profile w p → OnZero profile w p

-- Calls on an OUT endpoint with this number.
pub record OnOut (profile : Profile) (w : Whole) (p : Port) (n : ℕ) : Type 0 where
  pub opens : (e : Endpoint) → e.addr ≡ n → (out_kept w.joint.software n).state ≡ out.Closed → 1 ≤ e.size → e.size ≤ 64 → Are profile (with_joint w (run_open_out w.joint e)) (with_endpoint p e)
  pub arms :
      (out_kept w.joint.software n).state ≡ out.Rest → (out_kept w.joint.software n).halted ≡ false → is_core (out_kept w.joint.software n).endpoint.owner ≡ false
      → length (out_ring w.rings n).bytes + (out_kept w.joint.software n).endpoint.size ≤ (out_ring w.rings n).capacity
      → Are profile (with_joint w (run_arm_out w.joint n)) (armed_at p n)
  pub halts : IsTrue (is_open (out_kept w.joint.software n).state) → Are profile (with_joint w (run_halt_out w.joint n)) (halted_at p n)
  pub clears : IsTrue (is_open (out_kept w.joint.software n).state) → Are profile (with_joint w (run_clear_out w.joint n)) (cleared_at p n)
  pub reads : (count : ℕ) → Are profile (run_read_out w n count) (read_at p n count)
  pub drops : Are profile (run_drop_out w n) (dropped_at p n)
  pub notes : Are profile (with_joint w (run_note_out w.joint n)) (noted_out p n)

abbrev pub ServesOut : Profile → Type 0
ServesOut profile = (w : Whole) (p : Port) (m : ℕ) → m < profile.out_eps → Are profile w p → OnOut profile w p (suc m)

-- Calls on an IN endpoint with this number, whose address has bit 7 too.
pub record OnIn (profile : Profile) (w : Whole) (p : Port) (n : ℕ) : Type 0 where
  pub opens : (e : Endpoint) → e.addr ≡ 128 + n → IsClosedIn (in_joint_of w n) → IsOpened e → Are profile (with_joint w (run_open_in w.joint e n)) (with_endpoint p e)
  pub starts : (in_kept w.joint.software n).state ≡ inward.Rest → IsClass (in_joint_of w n) → Are profile (with_joint w (run_start_in w.joint n (in_ring w.rings n).bytes)) (started_at p n)
  pub halts : IsOpenIn (in_joint_of w n) → Are profile (with_joint w (run_halt_in w.joint n)) (halted_at p (128 + n))
  pub clears : IsOpenIn (in_joint_of w n) → Are profile (run_clear_in w n) (cleared_at p (128 + n))
  pub writes : (bytes : List ℕ) → ((i : ℕ) → slice_index bytes i < 256) → IsOpenIn (in_joint_of w n) → Are profile (run_write_in w n bytes) (written_at p n (in_ring w.rings n).capacity bytes)
  pub drops : IsOpenIn (in_joint_of w n) → Are profile (run_drop_in w n) (dropped_at p (128 + n))
  pub notes : Are profile (with_joint w (run_note_in w.joint n)) (noted_in p n)

abbrev pub ServesIn : Profile → Type 0
ServesIn profile = (w : Whole) (p : Port) (m : ℕ) → m < profile.in_eps → Are profile w p → OnIn profile w p (suc m)

-- The end of a session.
abbrev pub Closes : Profile → Type 0
Closes profile = (w : Whole) (p : Port) → Are profile w p → Are profile (run_close profile w) (without_endpoints p)

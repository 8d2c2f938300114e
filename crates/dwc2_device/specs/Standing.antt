-- What a handler run's steps need of controller, software and rings.
use Rattle.std.specs.Prelude.{◌≡◌, ◌≢◌, ℕ, suc, ◌+◌, ◌≤◌, false, length}
use Rattle.dwc2_regs.specs.declared.access.TheConstants.{FS4}
use Rattle.dwc2_regs.specs.Register.{grxstsp}
use Rattle.device_table.specs.Words.{kind_of, number_of, setup_data, out_data, out_done}
use Rattle.device_table.specs.Read.{value_read}
use Rattle.device_machine.specs.Pipes.{Pipes}
use Rattle.device_rings.specs.Rings.{out_ring}
use Rattle.endpoint_relation.specs.InRelation.{InStands}
use Rattle.device_relation.specs.Software.{out_kept}
use Rattle.device_relation.specs.PipeRelation.{PipesStand}
use Rattle.device_relation.specs.Port.{Port, StandsFor}
use Rattle.device_relation.specs.Run.{Whole, byte_count, in_joint_of}

-- they stand for some device
pub record IsStanding (w : Whole) : Type 0 where
  pub port : Port
  pub pipes : Pipes
  pub zero : StandsFor FS4 w.joint port
  pub stand : PipesStand FS4 w.joint.table w.joint.software w.rings pipes

-- a word of GRXSTSP that tells the end of a packet on the OUT endpoint of a number
abbrev pub EndsAt : ℕ → ℕ → Type 0
EndsAt number status = (kind_of status ≡ out_done) × (number_of status ≡ number)

-- A word that tells of what came, where it was popped. The packet is one of an endpoint of the controller, and its ring has room
-- for it, unless it was dropped. Behind a packet's data comes the end of that packet, and behind a SETUP's no packet's.
pub record Fits (w : Whole) (status : ℕ) : Type 0 where
  pub begins : kind_of status ≢ out_done
  pub setup : kind_of status ≡ setup_data → kind_of (value_read w.joint.table grxstsp) ≢ out_done
  pub ends : kind_of status ≡ out_data → EndsAt (number_of status) (value_read w.joint.table grxstsp)
  pub known : kind_of status ≡ out_data → number_of status ≤ 3
  pub room : (n : ℕ) → kind_of status ≡ out_data → number_of status ≡ suc n → (out_kept w.joint.software (suc n)).over ≡ false
      → length (out_ring w.rings (suc n)).bytes + byte_count status ≤ (out_ring w.rings (suc n)).capacity

-- each IN endpoint agrees with its pipe
pub record InsStand (w : Whole) : Type 0 where
  pub one : InStands 1 (in_joint_of w 1)
  pub two : InStands 2 (in_joint_of w 2)
  pub three : InStands 3 (in_joint_of w 3)
  pub ends : length w.joint.table.ins ≡ 3

-- What the driver of a device keeps between its calls, and the controller with it.
use Rattle.std.specs.Prelude.{ℕ, zero, suc, Bool, false, List, Option, None, replicate, slice_index_or, slice_set}
use Rattle.dwc2_regs.specs.declared.access.Profile.{Profile}
use Rattle.device_machine.specs.declared.control.Stage.{Stage}
use Rattle.device_table.specs.State.{Table}
use Rattle.endpoint_relation.specs.declared.out_.OutEndpoint.{OutEndpoint}
use Rattle.endpoint_relation.specs.OutRelation.{not_open}
use Rattle.endpoint_relation.specs.declared.in_.InEndpoint.{InEndpoint}
use Rattle.endpoint_relation.specs.InRelation.{in_unused}
use Rattle.device_relation.specs.declared.software.Ready.{Ready}
use Rattle.device_relation.specs.declared.software.Ready.TheVariants as ready
use Rattle.device_relation.specs.declared.software.Heard.{Heard}
use Rattle.device_relation.specs.declared.software.Heard.TheVariants as heard

pub record Software : Type 0 where
  -- what endpoint 0 holds ready
  pub side : Ready
  -- what was taken from it last
  pub heard : Heard
  -- the address that the device has once the packet that is ready is acknowledged (USB 2.0, 9.4.6)
  pub next_address : Option ℕ
  -- what is kept of the endpoints other than 0, by number from 1 on
  pub outs : List OutEndpoint
  pub ins : List InEndpoint
  -- the notes of a reset, of a stage that finished and of a SETUP, which nobody has taken
  pub reset : Bool
  pub finished : Option Stage
  pub request : Option (List ℕ)

-- the controller and the driver's software
pub record Joint : Type 0 where
  pub table : Table
  pub software : Software

-- at the start, and after a reset but for its note
abbrev pub unused : Profile → Bool → Software
unused profile reset = record {
  side = ready.Off;
  heard = heard.Nothing;
  next_address = None;
  outs = replicate profile.out_eps (not_open false);
  ins = replicate profile.in_eps in_unused;
  reset = reset;
  finished = None;
  request = None;
}

-- what is kept of one endpoint; of one that the controller hasn't there is nothing
abbrev pub out_kept : Software → ℕ → OutEndpoint
out_kept s zero = not_open false
out_kept s (suc n) = slice_index_or s.outs n (not_open false)

abbrev pub in_kept : Software → ℕ → InEndpoint
in_kept s zero = in_unused
in_kept s (suc n) = slice_index_or s.ins n in_unused

abbrev pub with_out_kept : Software → ℕ → OutEndpoint → Software
with_out_kept s zero kept = s
with_out_kept s (suc n) kept = record s { outs = slice_set s.outs n kept }

abbrev pub with_in_kept : Software → ℕ → InEndpoint → Software
with_in_kept s zero kept = s
with_in_kept s (suc n) kept = record s { ins = slice_set s.ins n kept }

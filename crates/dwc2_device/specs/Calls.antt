-- What the calls on endpoints other than 0 need of what the driver keeps.
use Rattle.std.specs.Prelude.{◌≡◌, ℕ, ◌+◌, ◌-◌, ◌≤◌, ◌⊎◌, nat_lt, Bool, true, false, length, if◌then◌else◌}
use Rattle.usb_descriptor.specs.Set.{is_core}
use Rattle.dwc2_regs.specs.declared.access.TheConstants.{FS4}
use Rattle.device_rings.specs.Rings.{Rings, out_ring}
use Rattle.endpoint_relation.specs.declared.out_.OutState.TheVariants as out_state
use Rattle.endpoint_relation.specs.OutRelation.{is_open}
use Rattle.endpoint_relation.specs.declared.in_.InState.{InState}
use Rattle.endpoint_relation.specs.declared.in_.InState.TheVariants.{Closed, Rest, Running, Posted}
use Rattle.device_relation.specs.Software.{Software, out_kept, in_kept}

-- the address of an endpoint other than 0 that the controller has
abbrev pub IsNumbered : ℕ → Type 0
IsNumbered address = ((1 ≤ address) × (address ≤ FS4.out_eps)) ⊎ ((129 ≤ address) × (address ≤ 128 + FS4.in_eps))

abbrev pub is_in_open : InState → Bool
is_in_open Closed = false
is_in_open Rest = true
is_in_open Running = true
is_in_open Posted = true

-- the endpoint at an address is open
abbrev pub is_open_at : Software → ℕ → Bool
is_open_at s address = if nat_lt address 128 then is_open (out_kept s address).state else is_in_open (in_kept s (address - 128)).state

-- the endpoint at an address is halted
abbrev pub is_halted_at : Software → ℕ → Bool
is_halted_at s address = if nat_lt address 128 then (out_kept s address).halted else (in_kept s (address - 128)).halted

-- what arming an OUT endpoint needs, and starting an IN endpoint
pub record MayArm (s : Software) (r : Rings) (n : ℕ) : Type 0 where
  pub from : 1 ≤ n
  pub to : n ≤ 3
  pub rests : (out_kept s n).state ≡ out_state.Rest
  pub moves : (out_kept s n).halted ≡ false
  pub class : is_core (out_kept s n).endpoint.owner ≡ false
  pub room : length (out_ring r n).bytes + (out_kept s n).endpoint.size ≤ (out_ring r n).capacity

pub record MayStart (s : Software) (n : ℕ) : Type 0 where
  pub from : 1 ≤ n
  pub to : n ≤ 3
  pub rests : (in_kept s n).state ≡ Rest
  pub class : is_core (in_kept s n).endpoint.owner ≡ false

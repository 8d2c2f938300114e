-- What a class's pipe shows, by the number of its endpoint, and what holds of it.
use Rattle.std.specs.Prelude.{◌≡◌, ℕ, ◌≤◌, true, false}
use Rattle.usb_descriptor.specs.Set.{is_core}
use Rattle.usb_pipe.specs.declared.phase.Phase.{Phase}
use Rattle.usb_pipe.specs.declared.phase.Phase.TheVariants as phase
use Rattle.endpoint_relation.specs.declared.out_.OutState.{OutState}
use Rattle.endpoint_relation.specs.declared.out_.OutState.TheVariants as out_state
use Rattle.endpoint_relation.specs.declared.out_.OutEndpoint.{OutEndpoint}
use Rattle.endpoint_relation.specs.declared.in_.InState.{InState}
use Rattle.endpoint_relation.specs.declared.in_.InState.TheVariants as in_state
use Rattle.endpoint_relation.specs.declared.in_.InEndpoint.{InEndpoint}
use Rattle.usb_pipe.specs.Own.{in_phase, out_phase, unless_halted}
use Rattle.device_machine.specs.Pipes.{Pipes, OutSlot, InSlot, out_slot, in_slot, is_out_open, in_hears}
use Rattle.device_rings.specs.Rings.{Rings, IsRing, out_ring, in_ring}
use Rattle.device_rings.specs.Sizes.{ring_size}

-- what a driver's state shows: where it may be that a packet landed, the pipe runs either way

abbrev pub out_state_phase : OutState → Phase
out_state_phase out_state.Closed = phase.Closed
out_state_phase out_state.Rest = phase.Rest
out_state_phase out_state.Armed = phase.Running
out_state_phase out_state.Posted = phase.Posted
out_state_phase out_state.Stale = phase.Running

abbrev pub in_state_phase : InState → Phase
in_state_phase in_state.Closed = phase.Closed
in_state_phase in_state.Rest = phase.Rest
in_state_phase in_state.Running = phase.Running
in_state_phase in_state.Posted = phase.Posted

abbrev pub out_kept_shown : OutEndpoint → Phase
out_kept_shown kept = unless_halted kept.halted (out_state_phase kept.state)

abbrev pub in_kept_shown : InEndpoint → Phase
in_kept_shown kept = unless_halted kept.halted (in_state_phase kept.state)

-- what a pipe shows
abbrev pub in_shown : InSlot → Phase
in_shown slot = unless_halted slot.pipe.halted (in_phase slot.pipe.phase)

abbrev pub out_shown : OutSlot → Phase
out_shown slot = unless_halted slot.pipe.halted (out_phase slot.pipe.phase)

-- The pipe of a class by the number of its endpoint, 0 where it has none: it has a ring, whose size is that of the endpoint where
-- that is open.
pub record IsSender (p : Pipes) (r : Rings) (n : ℕ) : Type 0 where
  pub to : n ≤ 3
  pub ring : 1 ≤ n → IsRing (in_ring r n)
  pub capacity : in_hears (in_slot p n) ≡ true → ring_size (in_slot p n).endpoint ≡ (in_ring r n).capacity
  pub class : in_hears (in_slot p n) ≡ true → is_core (in_slot p n).endpoint.owner ≡ false
  pub shut : in_hears (in_slot p n) ≡ false → ring_size (in_slot p n).endpoint ≡ 0

pub record IsReceiver (p : Pipes) (r : Rings) (n : ℕ) : Type 0 where
  pub to : n ≤ 3
  pub ring : 1 ≤ n → IsRing (out_ring r n)
  pub capacity : is_out_open (out_slot p n).pipe.phase ≡ true → ring_size (out_slot p n).endpoint ≡ (out_ring r n).capacity
  pub class : is_out_open (out_slot p n).pipe.phase ≡ true → is_core (out_slot p n).endpoint.owner ≡ false
  pub shut : is_out_open (out_slot p n).pipe.phase ≡ false → ring_size (out_slot p n).endpoint ≡ 0

-- What a call takes and tells.
use Rattle.std.proofs.Common.{◌≡◌, ℕ, ◌+◌, ◌-◌, ◌*◌, ◌/◌, ◌≤◌, ◌<◌, ◌⊎◌, length, refl, sym, arith}
use Rattle.std.specs.Prelude.{min}
use Rattle.std.proofs.lemmas.List.{take-append-drop, length-take, length-drop}
use Rattle.usb_pipe.specs.Own.{Own, phase_at, held_at, room_at, capacity_at}
use Rattle.class_pipes.proofs.Phases.{test-closed}
use Rattle.midi_device_machine.specs.Port.{event_count, come, in_fours}
use Rattle.midi_device_machine.specs.Sending.{taken_count}
use Rattle.midi_device_machine.specs.Laws.{TakesWhatHasRoom, TakesWholeEvents}
use Rattle.midi_device_machine.proofs.Taking.{count-tells, count-most}
use Rattle.midi_device_machine.proofs.Fours.{fours, are_events}

-- room behind what is held
behind : (held capacity n : ℕ) → n + 4 ≤ capacity - held → held + n + 4 ≤ capacity
behind held capacity n h = omega arith

before : (held capacity n : ℕ) → held + n + 4 ≤ capacity → n + 4 ≤ capacity - held
before held capacity n h = omega arith

pub takes_what_has_room : TakesWhatHasRoom
takes_what_has_room port own bytes open_ =
    let e = test-closed (phase_at own 0) open_.0 in
    let f = test-closed (phase_at own 1) open_.1 in
    let tells = count-tells port.packer (room_at own 0) bytes in (
      taken_count port.packer (room_at own 0) bytes,
      rw (e, f) refl,
      count-most port.packer (room_at own 0) bytes,
      λ i. (
        λ h. let k = (tells i).holds h in (k.0, behind (held_at own 0) (capacity_at own 0) _ k.1),
        λ h. (tells i).takes h.0 (before (held_at own 0) (capacity_at own 0) _ h.1),
      ),
    )

-- four times what a quarter of the bytes is, at most, is no more than they are
quarter : (most held : ℕ) → 4 * min most (held / 4) ≤ held
quarter most held = grind arith

come-size : (own : Own) (most : ℕ) → length (come own most) ≡ 4 * event_count own most
come-size own most =
    let k = quarter (min most 1024) (held_at own 1) in
    let h = length-take (4 * event_count own most) own.receives.pipe.held in
    omega arith

-- as many as are asked for, or all that are whole
all_whole : (most held : ℕ) → (min (min most 1024) (held / 4) ≡ most) ⊎ ((min (min most 1024) (held / 4) ≡ 1024) ⊎ (held - 4 * min (min most 1024) (held / 4) < 4))
all_whole most held = grind arith

pub takes_whole_events : TakesWholeEvents
takes_whole_events port own most open_ =
    let e = test-closed (phase_at own 0) open_.0 in
    let f = test-closed (phase_at own 1) open_.1 in
    let n = event_count own most in
    let held = own.receives.pipe.held in
    let whole = are_events (come own most) n (come-size own most) in
    let size = whole.count in
    let rest = length-drop (4 * n) held in
    let last = all_whole most (held_at own 1) in (
      in_fours (come own most),
      fours (come own most),
      rw (e, f, whole.joined) refl,
      rw (e, f) refl,
      rw (e, f, whole.joined) (sym (take-append-drop (4 * n) held)),
      omega arith,
      omega arith,
      rw (e, f, size, rest) last,
      rw (e, f) refl,
    )

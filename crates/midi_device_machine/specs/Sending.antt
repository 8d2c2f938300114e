-- What of a MIDI stream is taken, and the events that it makes (USB MIDI 1.0, 4).
use Rattle.std.specs.Prelude.{ℕ, zero, suc, ◌+◌, List, Bool, nat_le, length, take, if◌then◌else◌}
use Rattle.std.specs.List.{concat}
use Rattle.midi_events.specs.Packing.{State, packed}

-- the bytes of an event
abbrev pub event_size : ℕ
event_size = 4

-- the bytes of the events that a stream makes whole
abbrev pub event_bytes : State → List ℕ → List ℕ
event_bytes packer stream = concat (packed packer stream)

-- whether an event's bytes still are free behind the events of a stream, where so many were free before them
abbrev pub has_room : State → ℕ → List ℕ → Bool
has_room packer room stream = nat_le (length (event_bytes packer stream) + event_size) room

-- the most bytes of a stream, n or fewer, the last of which still found room for an event
abbrev pub taken_within : ℕ → State → ℕ → List ℕ → ℕ
taken_within zero packer room stream = zero
taken_within (suc n) packer room stream =
    if has_room packer room (take n stream) then suc n else taken_within n packer room stream

-- how many bytes of a stream are taken: those before each of which there was room for an event
abbrev pub taken_count : State → ℕ → List ℕ → ℕ
taken_count packer room stream = taken_within (length stream) packer room stream

abbrev pub taken_bytes : State → ℕ → List ℕ → List ℕ
taken_bytes packer room stream = take (taken_count packer room stream) stream

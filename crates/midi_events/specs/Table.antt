-- Which code index an event has, by the bytes that it carries (USB MIDI 1.0, table 4-1).
use Rattle.std.specs.Prelude.{◌≡◌, ℕ, ◌/◌, List, length, slice_index, ◌==◌, nat_lt, if◌then◌else◌}
use Rattle.midi_events.specs.Events.{packet, unpacked}

-- a piece of a SysEx: 6 where f7 is its second byte, 7 where it is its third, and 4 where the SysEx goes on
abbrev pub sysex_index : ℕ → ℕ → ℕ
sysex_index b c =
    if b == 0xf7 then 6
    else if c == 0xf7 then 7
    else 4

-- by the first byte: data and f0 begin a piece of a SysEx; 8 to e are the channel messages by their high nibble; f1 and f3
-- take 2, f2 takes 3; f6, and f7 alone, take 5; f8 to ff take f. Nothing begins with f4 or f5, and 0 is reserved
abbrev pub index_of : ℕ → ℕ → ℕ → ℕ
index_of a b c =
    if nat_lt a 0x80 then sysex_index b c
    else if nat_lt a 0xf0 then a / 16
    else if a == 0xf0 then sysex_index b c
    else if a == 0xf1 then 2
    else if a == 0xf2 then 3
    else if a == 0xf3 then 2
    else if a == 0xf6 then 5
    else if a == 0xf7 then 5
    else if nat_lt a 0xf8 then 0
    else 15

-- an event has four bytes: on cable 0 the code index that its bytes have in the table, then the bytes that it carries, filled
-- with 0
pub record IsTableEvent (event : List ℕ) : Type 0 where
  pub four : length event ≡ 4
  pub index : slice_index event 0 ≡ index_of (slice_index event 1) (slice_index event 2) (slice_index event 3)
  pub filled : event ≡ packet (slice_index event 0) (unpacked event)

-- What a host's handler run tells of a packet, and how often it tries one: USB 2.0, 8.6 and 10.2.6.
use Rattle.std.specs.Prelude.{ℕ}

-- what a handler run noted, before a task took the note
pub data Note : Type 0 where
  -- the packet was acknowledged, or data was
  Went : Note
  -- STALL came
  Refused : Note
  -- the tries are over
  Lost : Note

-- a packet is tried so often in a row without an answer
abbrev pub most_tries : ℕ
most_tries = 3

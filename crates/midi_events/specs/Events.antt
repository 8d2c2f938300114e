-- Event packets (USB MIDI 1.0, section 4): the cable in the high nibble and the code index in the low nibble of the first
-- byte, then up to three bytes of the stream, filled with 0.
use Rattle.std.specs.Prelude.{ℕ, ◌%◌, List, [], ◌∷◌, ◌++◌, take, drop, slice_index}

-- the event on cable 0 that carries these one to three bytes
abbrev pub packet : ℕ → List ℕ → List ℕ
packet code bytes = take 4 (code ∷ (bytes ++ 0 ∷ 0 ∷ []))

-- how many bytes an event carries, for code indices 0 to f (USB MIDI 1.0, table 4-1)
abbrev pub carried_counts : List ℕ
carried_counts = 0 ∷ 0 ∷ 2 ∷ 3 ∷ 3 ∷ 1 ∷ 2 ∷ 3 ∷ 3 ∷ 3 ∷ 3 ∷ 3 ∷ 2 ∷ 2 ∷ 3 ∷ 1 ∷ []

-- the bytes that an event carries, on any cable
abbrev pub unpacked : List ℕ → List ℕ
unpacked event = take (slice_index carried_counts (slice_index event 0 % 16)) (drop 1 event)

-- What was read ahead.
use Rattle.std.specs.Prelude.{◌≡◌, ℕ, ◌+◌, ◌<◌, List, [], ◌∷◌, ◌++◌, true, length, take, drop, Option, Some, None}
use Rattle.usb_edge.specs.Stream.{Reads}
use Rattle.usb_text.specs.Line.{newline}
use Rattle.usb_text.specs.Plain.{is_plain}

-- what was read of a source stands behind what had been read ahead
pub record Fills (left left' : Option (List ℕ)) (ahead ahead' : List ℕ) : Type 0 where
  pub got : List ℕ
  pub reads : Reads left left' got
  pub joined : ahead' ≡ ahead ++ got

-- the first line break of bytes: its line is what stands before it
abbrev pub IsLineBreak : List ℕ → Option ℕ → Type 0
IsLineBreak bytes None = is_plain bytes ≡ true
IsLineBreak bytes (Some n) = (n < length bytes) × (is_plain (take n bytes) ≡ true) × (bytes ≡ take n bytes ++ newline ∷ drop (n + 1) bytes)

-- the bytes that a source has left, where it tells them, and else none
abbrev pub bytes_left : Option (List ℕ) → List ℕ
bytes_left None = []
bytes_left (Some left) = left

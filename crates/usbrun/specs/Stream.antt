-- What waits to be written.
use Rattle.std.specs.Prelude.{◌≡◌, ℕ, ◌+◌, ◌≤◌, List, ◌++◌, length, Option}
use Rattle.usb_edge.specs.Stream.{Takes}

-- what a sink took stood in front of what still waits
pub record Hands (taken taken' : Option (List ℕ)) (waiting waiting' : List ℕ) : Type 0 where
  pub given : List ℕ
  pub takes : Takes taken taken' given
  pub joined : waiting ≡ given ++ waiting'

-- behind what waits, of at most 32,768 bytes, there is room for what one line more adds: 400 register lines of at most 17
-- bytes and an answer of 8,200, each with its newline
abbrev pub HasRoom : List ℕ → Type 0
HasRoom waiting = length waiting + 15000 ≤ 32768

-- What becomes of a transaction on the bus: USB 2.0, 8.6.2 to 8.6.4.
use Rattle.std.specs.Prelude.{Bool, true, false}

pub data Fate : Type 0 where
  -- the other end gets the data, and its sender the answer
  Whole : Fate
  -- the data or the token is lost or damaged: nobody answers
  DataLost : Fate
  -- the data arrives, and the handshake that answers it is lost
  HandshakeLost : Fate

-- whether the data arrives
abbrev pub arrives : Fate → Bool
arrives Whole = true
arrives DataLost = false
arrives HandshakeLost = true

-- whether the handshake arrives too
abbrev pub is_whole : Fate → Bool
is_whole Whole = true
is_whole DataLost = false
is_whole HandshakeLost = false

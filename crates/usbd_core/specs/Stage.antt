-- A data stage for the host, by the packets that aren't handed over yet.
use Rattle.std.specs.Prelude.{ℕ, List, [], ◌∷◌, Option, Some, None, map}
use Rattle.device_machine.specs.Packets.{packet_at, numbers_from}

-- so many packets of this data, from number `next` on
abbrev pub packets_from : List ℕ → ℕ → ℕ → List (List ℕ)
packets_from bytes next left = map (packet_at bytes) (numbers_from next left)

abbrev pub first_of : {A : Type 0} → List A → Option A
first_of [] = None
first_of (x ∷ xs) = Some x

abbrev pub rest_of : {A : Type 0} → List A → List A
rest_of [] = []
rest_of (x ∷ xs) = xs

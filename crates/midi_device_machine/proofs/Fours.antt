-- Bytes in fours.
use Rattle.std.proofs.Common.{◌≡◌, ℕ, zero, suc, ◌*◌, List, [], ◌∷◌, ◌++◌, length, refl, ap, arith}
use Rattle.std.specs.Prelude.{All}
use Rattle.std.specs.List.{concat}
use Rattle.std.proofs.lemmas.List.Elements.{All-nil, All-cons}
use Rattle.midi_device_machine.specs.Port.{in_fours}
use Rattle.midi_device_machine.specs.Laws.{IsEvent}

pub fours : (bytes : List ℕ) → All IsEvent (in_fours bytes)
fours (a ∷ b ∷ c ∷ d ∷ rest) = All-cons IsEvent (a ∷ b ∷ c ∷ d ∷ []) (in_fours rest) refl (fours rest)
fours (a ∷ b ∷ c ∷ []) = All-nil IsEvent
fours (a ∷ b ∷ []) = All-nil IsEvent
fours (a ∷ []) = All-nil IsEvent
fours [] = All-nil IsEvent

-- so many whole events are all of these bytes
pub record AreEvents (n : ℕ) (bytes : List ℕ) : Type 0 where
  pub joined : concat (in_fours bytes) ≡ bytes
  pub count : length (in_fours bytes) ≡ n

pub are_events : (bytes : List ℕ) (n : ℕ) → length bytes ≡ 4 * n → AreEvents n bytes
are_events [] n h = record { joined = refl; count = omega arith }
are_events (a ∷ []) n h = absurd (omega arith)
are_events (a ∷ b ∷ []) n h = absurd (omega arith)
are_events (a ∷ b ∷ c ∷ []) n h = absurd (omega arith)
are_events (a ∷ b ∷ c ∷ d ∷ rest) zero h = absurd (omega arith)
are_events (a ∷ b ∷ c ∷ d ∷ rest) (suc n) h =
    let k = are_events rest n (omega arith) in
    let size = k.count in
    record { joined = ap (λ (bytes : List ℕ). a ∷ b ∷ c ∷ d ∷ bytes) k.joined; count = omega arith }

-- one more event
pub fours-append : (bytes : List ℕ) (n : ℕ) (event : List ℕ) → length bytes ≡ 4 * n → length event ≡ 4 → in_fours (bytes ++ event) ≡ in_fours bytes ++ (event ∷ [])
fours-append [] n (a ∷ b ∷ c ∷ d ∷ []) h k = refl
fours-append [] n [] h k = absurd (omega arith)
fours-append [] n (a ∷ []) h k = absurd (omega arith)
fours-append [] n (a ∷ b ∷ []) h k = absurd (omega arith)
fours-append [] n (a ∷ b ∷ c ∷ []) h k = absurd (omega arith)
fours-append [] n (a ∷ b ∷ c ∷ d ∷ e ∷ rest) h k = absurd (omega arith)
fours-append (a ∷ []) n event h k = absurd (omega arith)
fours-append (a ∷ b ∷ []) n event h k = absurd (omega arith)
fours-append (a ∷ b ∷ c ∷ []) n event h k = absurd (omega arith)
fours-append (a ∷ b ∷ c ∷ d ∷ rest) zero event h k = absurd (omega arith)
fours-append (a ∷ b ∷ c ∷ d ∷ rest) (suc n) event h k =
    ap (λ (events : List (List ℕ)). (a ∷ b ∷ c ∷ d ∷ []) ∷ events) (fours-append rest n event (omega arith) k)

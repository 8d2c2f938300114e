-- What of a stream is taken, and how many bytes its events have.
use Rattle.std.proofs.Common.{◌≡◌, ℕ, zero, suc, ◌+◌, ◌≤◌, ◌<◌, ◌⊎◌, inl, inr, List, [], ◌∷◌, ◌++◌, length, take, Bool, true, false, refl, ap, ◌∙◌, arith}
use Rattle.std.specs.Prelude.{option_to_list, if◌then◌else◌}
use Rattle.std.specs.List.{concat}
use Rattle.std.proofs.Math.Dec.{leb}
use Rattle.std.proofs.lemmas.Bool.Decides.{nat_tests, leb_tells}
use Rattle.std.proofs.lemmas.List.{length-append}
use Rattle.std.proofs.lemmas.List.Folds.{concat-append}
use Rattle.midi_events.specs.Packing.{State, event, after, packed, after_all}
use Rattle.midi_events.proofs.Sizes.{small}
use Rattle.midi_events.proofs.Stream.{packed-append}
use Rattle.midi_device_machine.specs.Sending.{event_bytes, has_room, taken_within, taken_count, taken_bytes}

-- the bytes of the event at one byte
abbrev pub sent : State → ℕ → List ℕ
sent s byte = concat (option_to_list (event s byte))

pub bytes-cons : (s : State) (byte : ℕ) (rest : List ℕ) → event_bytes s (byte ∷ rest) ≡ sent s byte ++ event_bytes (after s byte) rest
bytes-cons s byte rest = concat-append (option_to_list (event s byte)) (packed (after s byte) rest)

pub bytes-append : (s : State) (front back : List ℕ) → event_bytes s (front ++ back) ≡ event_bytes s front ++ event_bytes (after_all s front) back
bytes-append s front back =
    ap (λ (events : List (List ℕ)). concat events) (packed-append s front back)
    ∙ concat-append (packed s front) (packed (after_all s front) back)

pub after-append : (s : State) (front back : List ℕ) → after_all s (front ++ back) ≡ after_all (after_all s front) back
after-append s [] back = refl
after-append s (byte ∷ rest) back = after-append (after s byte) rest back

-- how many bytes the events of the first i bytes have
abbrev pub filled : State → List ℕ → ℕ → ℕ
filled s stream i = length (event_bytes s (take i stream))

filled-cons : (s : State) (byte : ℕ) (rest : List ℕ) (i : ℕ) → filled s (byte ∷ rest) (suc i) ≡ length (sent s byte) + filled (after s byte) rest i
filled-cons s byte rest i =
    ap (λ (bytes : List ℕ). length bytes) (bytes-cons s byte (take i rest))
    ∙ length-append (sent s byte) (event_bytes (after s byte) (take i rest))

grows : (s : State) (stream : List ℕ) (i j : ℕ) → i ≤ j → filled s stream i ≤ filled s stream j
grows s stream zero j h = omega arith
grows s [] (suc i) j h = omega arith
grows s (byte ∷ rest) (suc i) zero h = absurd (omega arith)
grows s (byte ∷ rest) (suc i) (suc j) h =
    let k = grows (after s byte) rest i j (omega arith) in
    let e = filled-cons s byte rest i in
    let f = filled-cons s byte rest j in
    rw (e, f) (omega arith)

adds : (s : State) (stream : List ℕ) (i : ℕ) → filled s stream (suc i) ≤ filled s stream i + 4
adds s [] i = omega arith
adds s (byte ∷ rest) zero =
    let e = filled-cons s byte rest 0 in
    let h = small s byte in
    rw e (omega arith)
adds s (byte ∷ rest) (suc i) =
    let k = adds (after s byte) rest i in
    let e = filled-cons s byte rest (suc i) in
    let f = filled-cons s byte rest i in
    rw (e, f) (omega arith)

-- whether there is room
room-of : (s : State) (room : ℕ) (stream : List ℕ) (i : ℕ) → has_room s room (take i stream) ≡ true → filled s stream i + 4 ≤ room
room-of s room stream i h = grind (arith, nat_tests)

no-room-of : (s : State) (room : ℕ) (stream : List ℕ) (i : ℕ) → has_room s room (take i stream) ≡ false → room < filled s stream i + 4
no-room-of s room stream i h = grind (arith, nat_tests)

-- one of two numbers is no more than the other
pub either : (a b : ℕ) → (a ≤ b) ⊎ (b < a)
either a b = by (leb_tells a b) where
  by : ((leb a b ≡ true) × (a ≤ b)) ⊎ ((leb a b ≡ false) × (b < a)) → (a ≤ b) ⊎ (b < a)
  by (inl h) = inl h.1
  by (inr h) = inr h.1

below : (a b : ℕ) → (b ≤ a → ⊥) → a < b
below a b h = by (either b a) where
  by : (b ≤ a) ⊎ (a < b) → a < b
  by (inl k) = absurd (h k)
  by (inr k) = k

-- the bytes that are taken are those with room before them
pub record Tells (n : ℕ) (s : State) (room : ℕ) (stream : List ℕ) (i : ℕ) (taken : ℕ) : Type 0 where
  pub holds : i < taken → (i < n) × (filled s stream i + 4 ≤ room)
  pub takes : i < n → filled s stream i + 4 ≤ room → i < taken

more : (n : ℕ) (s : State) (room : ℕ) (stream : List ℕ) (i taken : ℕ) (b : Bool) → has_room s room (take n stream) ≡ b → Tells n s room stream i taken → Tells (suc n) s room stream i (if b then suc n else taken)
more n s room stream i taken true e t = record {
  holds = λ h. (h, let r = room-of s room stream n e in let g = grows s stream i n (omega arith) in omega arith);
  takes = λ h k. h;
}
more n s room stream i taken false e t = record {
  holds = λ h. let k = t.holds h in (omega (arith, k.0), k.1);
  takes = λ h k. t.takes (below i n (λ p. let r = no-room-of s room stream n e in let g = grows s stream n i p in absurd (omega arith))) k;
}

within-tells : (n : ℕ) (s : State) (room : ℕ) (stream : List ℕ) (i : ℕ) → Tells n s room stream i (taken_within n s room stream)
within-tells zero s room stream i = record { holds = λ h. absurd (omega arith); takes = λ h k. absurd (omega arith) }
within-tells (suc n) s room stream i = more n s room stream i (taken_within n s room stream) (has_room s room (take n stream)) refl (within-tells n s room stream i)

pub count-tells : (s : State) (room : ℕ) (stream : List ℕ) (i : ℕ) → Tells (length stream) s room stream i (taken_count s room stream)
count-tells s room stream i = within-tells (length stream) s room stream i

within-most : (n : ℕ) (s : State) (room : ℕ) (stream : List ℕ) → taken_within n s room stream ≤ n
within-most n s room stream = by (either (taken_within n s room stream) n) where
  by : (taken_within n s room stream ≤ n) ⊎ (n < taken_within n s room stream) → taken_within n s room stream ≤ n
  by (inl k) = k
  by (inr k) = let h = (within-tells n s room stream n).holds k in absurd (omega (arith, h.0))

pub count-most : (s : State) (room : ℕ) (stream : List ℕ) → taken_count s room stream ≤ length stream
count-most s room stream = within-most (length stream) s room stream

-- the events of a front before each of whose bytes there was room have room
pub fills : (s : State) (room : ℕ) (stream : List ℕ) (n : ℕ) → ((i : ℕ) → i < n → filled s stream i + 4 ≤ room) → filled s stream n ≤ room
fills s room stream zero h = omega arith
fills s room stream (suc n) h = let k = h n (omega arith) in let a = adds s stream n in omega arith

pub taken-fits : (s : State) (room : ℕ) (stream : List ℕ) → length (event_bytes s (taken_bytes s room stream)) ≤ room
taken-fits s room stream = fills s room stream (taken_count s room stream) (λ i h. ((count-tells s room stream i).holds h).1)

-- where the next byte has no room, or none is left, that front is what is taken
no_more : (s : State) (room : ℕ) (stream : List ℕ) (n : ℕ) → (n ≡ length stream) ⊎ (room < filled s stream n + 4) → (taken_count s room stream ≤ n) ⊎ (n < taken_count s room stream) → taken_count s room stream ≤ n
no_more s room stream n last (inl h) = h
no_more s room stream n (inl e) (inr h) = let m = count-most s room stream in omega arith
no_more s room stream n (inr k) (inr h) = let t = (count-tells s room stream n).holds h in absurd (omega (arith, t.1, k))

no_less : (s : State) (room : ℕ) (stream : List ℕ) (n : ℕ) → n ≤ length stream → ((i : ℕ) → i < n → filled s stream i + 4 ≤ room) → (n ≤ taken_count s room stream) ⊎ (taken_count s room stream < n) → n ≤ taken_count s room stream
no_less s room stream n size had (inl h) = h
no_less s room stream n size had (inr h) =
    let count = taken_count s room stream in
    let t = (count-tells s room stream count).takes (omega (arith, h, size)) (had count h) in
    absurd (omega (arith, t))

same : (a b : ℕ) → a ≤ b → b ≤ a → a ≡ b
same a b h k = omega arith

pub is_count : (s : State) (room : ℕ) (stream : List ℕ) (n : ℕ) → n ≤ length stream → ((i : ℕ) → i < n → filled s stream i + 4 ≤ room) → (n ≡ length stream) ⊎ (room < filled s stream n + 4) → n ≡ taken_count s room stream
is_count s room stream n size had last =
    let count = taken_count s room stream in
    same n count (no_less s room stream n size had (either n count)) (no_more s room stream n last (either count n))

-- What the loop of `midi send` has done before its next byte.
use Rattle.std.proofs.Common.{◌≡◌, ℕ, suc, ◌+◌, ◌-◌, ◌≤◌, ◌<◌, ◌⊎◌, inl, inr, List, [], ◌∷◌, ◌++◌, length, take, get_or, refl, ap, sym, subst, ◌∙◌, arith}
use Rattle.std.proofs.Math.Seq.{take-suc}
use Rattle.std.proofs.lemmas.List.{take_all, append-nil, append_assoc, length-append}
use Rattle.usb_pipe.specs.Own.{Own, room_at, written}
use Rattle.midi_events.specs.Packing.{State, after_all}
use Rattle.midi_device_machine.specs.Sending.{event_bytes, taken_count}
use Rattle.midi_device_machine.proofs.Taking.{either, filled, bytes-append, after-append, fills, is_count}

pub record Sent (from : State) (start : Own) (stream : List ℕ) (n : ℕ) (packer : State) (own : Own) : Type 0 where
  pub kept : packer ≡ after_all from (take n stream)
  pub queued : own ≡ written start 0 (event_bytes from (take n stream))
  pub had_room : (i : ℕ) → i < n → filled from stream i + 4 ≤ room_at start 0

-- Bytes queued in two parts.

abbrev with_queue : Own → List ℕ → Own
with_queue own queue = record own { sends = record own.sends { pipe = record own.sends.pipe { queue = queue } } }

none_queued : (own : Own) → own ≡ written own 0 []
none_queued own =
    let none = take_all (room_at own 0) [] (omega arith) in
    let same : own.sends.pipe.queue ++ take (room_at own 0) [] ≡ own.sends.pipe.queue = ap (λ (back : List ℕ). own.sends.pipe.queue ++ back) none ∙ append-nil own.sends.pipe.queue in
    ap (λ (queue : List ℕ). with_queue own queue) (sym same)

queue-more : (capacity : ℕ) (queue a b : List ℕ) → length a + length b ≤ capacity - length queue → (queue ++ take (capacity - length queue) a) ++ take (capacity - length (queue ++ take (capacity - length queue) a)) b ≡ queue ++ take (capacity - length queue) (a ++ b)
queue-more capacity queue a b h =
    let size = length-append queue a in
    let both = length-append a b in
    let e = take_all (capacity - length queue) a (omega arith) in
    let f = take_all (capacity - length (queue ++ a)) b (omega arith) in
    let g = take_all (capacity - length queue) (a ++ b) (omega arith) in
    rw (e, f, g) (append_assoc queue a b)

written-more : (own : Own) (a b : List ℕ) → length a + length b ≤ room_at own 0 → written (written own 0 a) 0 b ≡ written own 0 (a ++ b)
written-more own a b h = ap (λ (queue : List ℕ). with_queue own queue) (queue-more own.sends.capacity own.sends.pipe.queue a b h)

queue-room : (capacity : ℕ) (queue a : List ℕ) → length a ≤ capacity - length queue → capacity - length (queue ++ take (capacity - length queue) a) ≡ capacity - length queue - length a
queue-room capacity queue a h =
    let size = length-append queue a in
    let e = take_all (capacity - length queue) a h in
    rw e (omega arith)

room-behind : (own : Own) (a : List ℕ) → length a ≤ room_at own 0 → room_at (written own 0 a) 0 ≡ room_at own 0 - length a
room-behind own a h = queue-room own.sends.capacity own.sends.pipe.queue a h

-- The loop.

pub none_sent : (from : State) (start : Own) (stream : List ℕ) → Sent from start stream 0 from start
none_sent from start stream = record { kept = refl; queued = none_queued start; had_room = λ i h. absurd (omega arith) }

-- the room that is left
pub room_left : {from : State} {start : Own} {stream : List ℕ} {n : ℕ} {packer : State} {own : Own} → Sent from start stream n packer own → (filled from stream n ≤ room_at start 0) × (room_at own 0 ≡ room_at start 0 - filled from stream n)
room_left {from} {start} {stream} {n} {packer} {own} s =
    let h = fills from (room_at start 0) stream n s.had_room in
    (h, ap (λ (o : Own). room_at o 0) s.queued ∙ room-behind start (event_bytes from (take n stream)) h)

less : (P : ℕ → Type 0) (n : ℕ) → P n → ((i : ℕ) → i < n → P i) → (i : ℕ) → i < suc n → P i
less P n here before i h = by (either n i) where
  by : (n ≤ i) ⊎ (i < n) → P i
  by (inl k) = let e : n ≡ i = omega (arith, k, h) in subst P e here
  by (inr k) = before i k

pub one_sent : {from : State} {start : Own} {stream : List ℕ} {n : ℕ} {packer : State} {own : Own} (d : ℕ) → Sent from start stream n packer own → n < length stream → 4 ≤ room_at own 0 → Sent from start stream (suc n) (after_all packer (get_or stream n d ∷ [])) (written own 0 (event_bytes packer (get_or stream n d ∷ [])))
one_sent {from} {start} {stream} {n} {packer} {own} d s h k =
    let byte = get_or stream n d in
    let front = take n stream in
    let next : take (suc n) stream ≡ front ++ (byte ∷ []) = take-suc stream n d h in
    let events : event_bytes from (take (suc n) stream) ≡ event_bytes from front ++ event_bytes (after_all from front) (byte ∷ []) = ap (λ (bytes : List ℕ). event_bytes from bytes) next ∙ bytes-append from front (byte ∷ []) in
    let left = room_left s in
    let here : filled from stream n + 4 ≤ room_at start 0 = omega (arith, left.0, left.1) in
    let had = less (λ i. filled from stream i + 4 ≤ room_at start 0) n here s.had_room in
    let fit = fills from (room_at start 0) stream (suc n) had in
    let sizes : filled from stream (suc n) ≡ length (event_bytes from front) + length (event_bytes (after_all from front) (byte ∷ [])) = ap (λ (bytes : List ℕ). length bytes) events ∙ length-append (event_bytes from front) (event_bytes (after_all from front) (byte ∷ [])) in
    let more = written-more start (event_bytes from front) (event_bytes (after_all from front) (byte ∷ [])) (omega (arith, fit, sizes)) in
    record {
      kept = ap (λ (p : State). after_all p (byte ∷ [])) s.kept ∙ sym (after-append from front (byte ∷ [])) ∙ ap (λ (bytes : List ℕ). after_all from bytes) (sym next);
      queued =
          ap (λ (p : State). written own 0 (event_bytes p (byte ∷ []))) s.kept
          ∙ ap (λ (o : Own). written o 0 (event_bytes (after_all from front) (byte ∷ []))) s.queued
          ∙ more
          ∙ ap (λ (bytes : List ℕ). written start 0 bytes) (sym events);
      had_room = had;
    }

pub next_sent : {from : State} {start : Own} {stream : List ℕ} {n byte room : ℕ} {packer new : State} {own after : Own} (d : ℕ) → Sent from start stream n packer own → n < length stream → byte ≡ get_or stream n d → room ≡ room_at own 0 → 4 ≤ room → new ≡ after_all packer (byte ∷ []) → after ≡ written own 0 (event_bytes packer (byte ∷ [])) → Sent from start stream (n + 1) new after
next_sent {from} {start} {stream} {n} {byte} {room} {packer} {new} {own} {after} d s h is_byte is_room few kept queued =
    let size : suc n ≡ n + 1 = omega arith in
    let left = subst (λ (m : ℕ). 4 ≤ m) is_room few in
    let one = one_sent d s h left in
    subst (λ (m : ℕ). Sent from start stream m new after) size (
    subst (λ (p : State). Sent from start stream (suc n) p after) (sym (kept ∙ ap (λ (b : ℕ). after_all packer (b ∷ [])) is_byte)) (
    subst (λ (o : Own). Sent from start stream (suc n) (after_all packer (get_or stream n d ∷ [])) o) (sym (queued ∙ ap (λ (b : ℕ). written own 0 (event_bytes packer (b ∷ []))) is_byte)) one))

-- where it ends
pub record Ended (from : State) (start : Own) (stream : List ℕ) (n : ℕ) (packer : State) (own : Own) : Type 0 where
  pub took : n ≡ taken_count from (room_at start 0) stream
  pub kept : packer ≡ after_all from (take (taken_count from (room_at start 0) stream) stream)
  pub queued : own ≡ written start 0 (event_bytes from (take (taken_count from (room_at start 0) stream) stream))

ends : {from : State} {start : Own} {stream : List ℕ} {n : ℕ} {packer : State} {own : Own} → Sent from start stream n packer own → n ≡ taken_count from (room_at start 0) stream → Ended from start stream n packer own
ends {from} {start} {stream} {n} {packer} {own} s e = record {
  took = e;
  kept = s.kept ∙ ap (λ (m : ℕ). after_all from (take m stream)) e;
  queued = s.queued ∙ ap (λ (m : ℕ). written start 0 (event_bytes from (take m stream))) e;
}

pub full : {from : State} {start : Own} {stream : List ℕ} {n room : ℕ} {packer : State} {own : Own} → Sent from start stream n packer own → n < length stream → room ≡ room_at own 0 → room < 4 → Ended from start stream n packer own
full {from} {start} {stream} {n} {room} {packer} {own} s h is_room few =
    let left = room_left s in
    let k = subst (λ (m : ℕ). m < 4) is_room few in
    ends s (is_count from (room_at start 0) stream n (omega arith) s.had_room (inr (omega (arith, left.0, left.1, k))))

pub all_sent : {from : State} {start : Own} {stream : List ℕ} {n : ℕ} {packer : State} {own : Own} → Sent from start stream n packer own → n ≡ length stream → Ended from start stream n packer own
all_sent {from} {start} {stream} {n} {packer} {own} s e = ends s (is_count from (room_at start 0) stream n (omega arith) s.had_room (inl e))

-- What the loop of `midi bytes` has done before its next event.
use Rattle.std.proofs.Common.{◌≡◌, ℕ, suc, ◌+◌, ◌*◌, ◌≤◌, ◌<◌, List, [], ◌∷◌, ◌++◌, length, take, drop, refl, ap, sym, subst, ◌∙◌, arith}
use Rattle.std.specs.Prelude.{◌%◌, slice_index}
use Rattle.std.specs.List.{flat_map}
use Rattle.std.proofs.Math.Seq.{take-add}
use Rattle.std.proofs.lemmas.Grind.{flat_map-append}
use Rattle.std.proofs.lemmas.List.{append-nil, length-append, length-take, length-take-le, length-drop, drop-drop}
use Rattle.usb_pipe.specs.Own.{Own, given, read, held_at}
use Rattle.midi_events.specs.Events.{unpacked, carried_counts}
use Rattle.midi_device_machine.specs.Port.{in_fours}
use Rattle.midi_device_machine.proofs.Fours.{fours-append}

pub record Told (start : Own) (n : ℕ) (bytes : List ℕ) (own : Own) : Type 0 where
  pub carried : bytes ≡ flat_map unpacked (in_fours (take (4 * n) start.receives.pipe.held))
  pub left : own ≡ read start (4 * n)
  pub size : length bytes ≤ 3 * n

-- an event carries three bytes at most
pub three : (event : List ℕ) → length event ≡ 4 → length (unpacked event) ≤ 3
three (a ∷ b ∷ c ∷ d ∷ []) h = let k = length-take (slice_index carried_counts (a % 16)) (b ∷ c ∷ d ∷ []) in omega arith
three [] h = absurd (omega arith)
three (a ∷ []) h = absurd (omega arith)
three (a ∷ b ∷ []) h = absurd (omega arith)
three (a ∷ b ∷ c ∷ []) h = absurd (omega arith)
three (a ∷ b ∷ c ∷ d ∷ e ∷ rest) h = absurd (omega arith)

pub none_told : (start : Own) → Told start 0 [] start
none_told start = record { carried = refl; left = refl; size = omega arith }

pub one_told : {start : Own} {n : ℕ} {bytes : List ℕ} {own : Own} → Told start n bytes own → 4 * suc n ≤ held_at start 1 → (length (given own 4) ≡ 4) × Told start (suc n) (bytes ++ unpacked (given own 4)) (read own 4)
one_told {start} {n} {bytes} {own} t h =
    let held = start.receives.pipe.held in
    let event = take 4 (drop (4 * n) held) in
    let is_event : given own 4 ≡ event = ap (λ (o : Own). given o 4) t.left in
    let rest = length-drop (4 * n) held in
    let four : length event ≡ 4 = length-take-le 4 (drop (4 * n) held) (omega arith) in
    let front : length (take (4 * n) held) ≡ 4 * n = length-take-le (4 * n) held (omega arith) in
    let count : 4 * suc n ≡ 4 * n + 4 = omega arith in
    let more : take (4 * suc n) held ≡ take (4 * n) held ++ event = ap (λ (m : ℕ). take m held) count ∙ take-add (4 * n) 4 held in
    let whole = fours-append (take (4 * n) held) n event front four in
    let small = three event four in
    let sizes = length-append bytes (unpacked event) in
    let carried : bytes ++ unpacked event ≡ flat_map unpacked (in_fours (take (4 * suc n) held)) =
    ap (λ (front : List ℕ). front ++ unpacked event) t.carried
    ∙ ap (λ (back : List ℕ). flat_map unpacked (in_fours (take (4 * n) held)) ++ back) (sym (append-nil (unpacked event)))
    ∙ sym (flat_map-append unpacked (in_fours (take (4 * n) held)) (event ∷ []))
    ∙ ap (λ (events : List (List ℕ)). flat_map unpacked events) (sym whole)
    ∙ ap (λ (bytes : List ℕ). flat_map unpacked (in_fours bytes)) (sym more) in
    let size = t.size in (
      rw is_event four,
      record {
        carried = rw is_event carried;
        left =
            ap (λ (o : Own). read o 4) t.left
            ∙ ap (λ (held : List ℕ). record start { receives = record start.receives { pipe = record start.receives.pipe { held = held } } }) (drop-drop 4 (4 * n) held ∙ ap (λ (m : ℕ). drop m held) (omega arith));
        size = rw is_event (omega arith);
      },
    )

pub next_told : {start : Own} {n count : ℕ} {bytes event carried after : List ℕ} {own next : Own} → Told start n bytes own → n < count → 4 * count ≤ held_at start 1 → event ≡ given own 4 → carried ≡ unpacked event → after ≡ bytes ++ carried → next ≡ read own 4 → Told start (n + 1) after next
next_told {start} {n} {count} {bytes} {event} {carried} {after} {own} {next} t h held is_event is_carried is_after is_next =
    let size : suc n ≡ n + 1 = omega arith in
    let one = one_told t (omega arith) in
    let all : after ≡ bytes ++ unpacked (given own 4) = is_after ∙ ap (λ (back : List ℕ). bytes ++ back) (is_carried ∙ ap (λ (e : List ℕ). unpacked e) is_event) in
    subst (λ (m : ℕ). Told start m after next) size (
    subst (λ (b : List ℕ). Told start (suc n) b next) (sym all) (
    subst (λ (o : Own). Told start (suc n) (bytes ++ unpacked (given own 4)) o) (sym is_next) one.1))

-- what an event carries has room in the answer
pub fits : {start : Own} {n count : ℕ} {bytes event carried : List ℕ} {own : Own} → Told start n bytes own → n < count → 4 * count ≤ held_at start 1 → count ≤ 1024 → event ≡ given own 4 → carried ≡ unpacked event → length bytes + length carried ≤ 4096
fits {start} {n} {count} {bytes} {event} {carried} {own} t h held few is_event is_carried =
    let one = one_told t (omega arith) in
    let small = three (given own 4) one.0 in
    let same : length carried ≡ length (unpacked (given own 4)) = ap (λ (b : List ℕ). length b) (is_carried ∙ ap (λ (e : List ℕ). unpacked e) is_event) in
    let size = t.size in
    omega (arith, small, same, size, h, few)

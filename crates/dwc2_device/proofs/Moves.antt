-- Words of the receive FIFO that go to a ring.
use Rattle.std.proofs.Common.{◌≡◌, ℕ, zero, suc, ◌+◌, ◌-◌, ◌/◌, ◌<◌, ◌≤◌, List, [], ◌++◌, length, take, min, refl, ap, sym, ◌∙◌, arith, subst, append_assoc, append-nil, length-append}
use Rattle.std.proofs.lemmas.List.{get_or-set_same, set-set, set-get_or}
use Rattle.usb_ring.specs.Ring.{Ring, appended, low_bytes}
use Rattle.dwc2_regs.specs.Word.{bytes_of}
use Rattle.dwc2_regs.specs.Register.{fifo}
use Rattle.dwc2_fifo.specs.Words.{word_count, bytes_in}
use Rattle.dwc2_fifo.specs.Rx.{first_word, words_behind}
use Rattle.device_table.specs.State.{Table}
use Rattle.device_table.specs.Read.{after_read}
use Rattle.device_rings.specs.Rings.{Rings, out_ring, with_out_ring, no_ring}
use Rattle.device_rings.proofs.Numbered.{from_one_room, to_last_room}
use Rattle.device_relation.specs.Run.{after_words, words_read, bytes_read}

count_step : (left : ℕ) → 0 < left → word_count left ≡ suc (word_count (left - min left 4))
count_step left h = omega (arith, h)

bytes_step : (left word : ℕ) (rest : List ℕ) → 0 < left → take left (bytes_of 4 word ++ rest) ≡ low_bytes (min left 4) word ++ take (left - min left 4) rest
bytes_step zero word rest h = absurd (omega (arith, h))
bytes_step (suc zero) word rest h = refl
bytes_step (suc (suc zero)) word rest h = refl
bytes_step (suc (suc (suc zero))) word rest h = refl
bytes_step (suc (suc (suc (suc k)))) word rest h =
    let four : min (suc (suc (suc (suc k)))) 4 ≡ 4 = omega arith in
    let behind : suc (suc (suc (suc k))) - 4 ≡ k = omega arith in
    sym (ap (λ n. low_bytes n word ++ take (suc (suc (suc (suc k))) - n) rest) four ∙ ap (λ n. low_bytes 4 word ++ take n rest) behind)

read_step : (left : ℕ) (t : Table) → 0 < left → bytes_read left t ≡ low_bytes (min left 4) (first_word t.rx.left) ++ bytes_read (left - min left 4) (after_read t (fifo 0))
read_step left t h =
    ap (λ k. take left (bytes_in (words_read k t.rx.left))) (count_step left h)
    ∙ bytes_step left (first_word t.rx.left) (bytes_in (words_read (word_count (left - min left 4)) (words_behind t.rx.left))) h

low_length : (n word : ℕ) → length (low_bytes n word) ≡ n
low_length zero word = refl
low_length (suc n) word = ap suc (low_length n (word / 256))

-- two appends to one ring
ring_there : (r : Rings) (m : ℕ) (ring : Ring) → suc m ≤ length r.outs → out_ring (with_out_ring r (suc m) ring) (suc m) ≡ ring
ring_there r m ring h = get_or-set_same r.outs m ring no_ring (omega (arith, h))

two_appends : (r : Rings) (m : ℕ) (xs ys : List ℕ) → suc m ≤ length r.outs
    → with_out_ring (with_out_ring r (suc m) (appended (out_ring r (suc m)) xs)) (suc m) (appended (out_ring (with_out_ring r (suc m) (appended (out_ring r (suc m)) xs)) (suc m)) ys)
    ≡ with_out_ring r (suc m) (appended (out_ring r (suc m)) (xs ++ ys))
two_appends r m xs ys h =
    let ring = out_ring r (suc m) in
    let first = appended ring xs in
    ap (λ (x : Ring). with_out_ring (with_out_ring r (suc m) first) (suc m) (appended x ys)) (ring_there r m first h)
    ∙ ap (λ outs. record r { outs = outs }) (set-set r.outs m first (appended first ys))
    ∙ ap (λ (b : List ℕ). with_out_ring r (suc m) (record ring { bytes = b })) (append_assoc ring.bytes xs ys)

pub nothing_moved : (r : Rings) (number left : ℕ) (t : Table) → left ≡ 0 → with_out_ring r number (appended (out_ring r number) (bytes_read left t)) ≡ r
nothing_moved r number left t e = ap (λ k. with_out_ring r number (appended (out_ring r number) (bytes_read k t))) e ∙ none r number
  where
    none : (r : Rings) (number : ℕ) → with_out_ring r number (appended (out_ring r number) []) ≡ r
    none r zero = refl
    none r (suc m) =
        let ring = out_ring r (suc m) in
        ap (λ (b : List ℕ). with_out_ring r (suc m) (record ring { bytes = b })) (append-nil ring.bytes) ∙ ap (λ outs. record r { outs = outs }) (set-get_or r.outs m no_ring)

pub no_words : (t : Table) (left : ℕ) → left ≡ 0 → after_words (word_count left) t ≡ t
no_words t left e = ap (λ k. after_words (word_count k) t) e

-- one word more, of which so many bytes count
pub record Step (r r' : Rings) (number left count : ℕ) (t t' : Table) : Type 0 where
  pub words : after_words (word_count (left - count)) t' ≡ after_words (word_count left) t
  pub ring : with_out_ring r' number (appended (out_ring r' number) (bytes_read (left - count) t')) ≡ with_out_ring r number (appended (out_ring r number) (bytes_read left t))
  pub room : length (out_ring r' number).bytes + (left - count) ≤ (out_ring r' number).capacity
  pub fewer : word_count (left - count) + 1 ≤ word_count left

step_at : (r : Rings) (number left : ℕ) (t : Table) → 0 < left → 1 ≤ number → number ≤ length r.outs → length (out_ring r number).bytes + left ≤ (out_ring r number).capacity
    → Step r (with_out_ring r number (appended (out_ring r number) (low_bytes (min left 4) (first_word t.rx.left)))) number left (min left 4) t (after_read t (fifo 0))
step_at r zero left t some from to room = absurd (omega (arith, from))
step_at r (suc m) left t some from to room =
    let xs = low_bytes (min left 4) (first_word t.rx.left) in
    let ring = out_ring r (suc m) in
    let there = ring_there r m (appended ring xs) to in
    let sum : length (ring.bytes ++ xs) ≡ length ring.bytes + min left 4 = length-append ring.bytes xs ∙ ap (λ k. length ring.bytes + k) (low_length (min left 4) (first_word t.rx.left)) in
    let fits : length (ring.bytes ++ xs) + (left - min left 4) ≤ ring.capacity = omega (arith, sum, room) in
    let one : word_count left ≡ suc (word_count (left - min left 4)) = count_step left some in
    record {
      words = sym (ap (λ k. after_words k t) one);
      ring = two_appends r m xs (bytes_read (left - min left 4) (after_read t (fifo 0))) to
          ∙ ap (λ (b : List ℕ). with_out_ring r (suc m) (appended ring b)) (sym (read_step left t some));
      room = subst (λ (x : Ring). length x.bytes + (left - min left 4) ≤ x.capacity) (sym there) fits;
      fewer = omega (arith, one);
    }

pub step : (r r' : Rings) (number left count word : ℕ) (t t' : Table) → 0 < left → count ≡ min left 4 → word ≡ first_word t.rx.left → t' ≡ after_read t (fifo 0)
    → length (out_ring r number).bytes + left ≤ (out_ring r number).capacity
    → r' ≡ with_out_ring r number (appended (out_ring r number) (low_bytes count word)) → Step r r' number left count t t'
step r r' number left count word t t' some c w e room k =
    let from = from_one_room r.outs number left (omega (arith, some)) room in
    let to = to_last_room r.outs number left (omega (arith, some)) room in
    subst (λ (n : ℕ). Step r r' number left n t t') (sym c)
    (subst (λ (x : Table). Step r r' number left (min left 4) t x) (sym e)
    (subst (λ (x : Rings). Step r x number left (min left 4) t (after_read t (fifo 0)))
    (sym (k ∙ ap (λ (n : ℕ). with_out_ring r number (appended (out_ring r number) (low_bytes n word))) c ∙ ap (λ (n : ℕ). with_out_ring r number (appended (out_ring r number) (low_bytes (min left 4) n))) w))
    (step_at r number left t some from to room)))

pub ruleset moves = (nothing_moved, no_words)

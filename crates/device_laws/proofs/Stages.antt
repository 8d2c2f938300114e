-- The packets of a data stage.
use Rattle.std.proofs.Common.{◌≡◌, ◌⊎◌, inl, inr, ℕ, zero, suc, ◌+◌, ◌*◌, ◌-◌, ◌≤◌, ◌<◌, ◌++◌, List, length, take, drop, map, min, ap, sym, refl, ◌∙◌, arith, subst}
use Rattle.std.specs.List.{concat, AllByRecursion}
use Rattle.std.proofs.Math.Seq.{take-add}
use Rattle.std.proofs.lemmas.List.{length-take, length-drop, take_all, drop-drop}
use Rattle.std.proofs.lemmas.Bool.Decides.{nat_tests}
use Rattle.device_machine.specs.Packets.{packet_count, packet_at, numbers_from, data_packets}
use Rattle.device_laws.specs.Stages.{FullButLast, Last, DataStages, LongIsNotOne, HasPacket}

next_place : (cut : List ℕ) (i : ℕ) → drop (64 * (i + 1)) cut ≡ drop 64 (drop (64 * i) cut)
next_place cut i =
    let e : 64 * (i + 1) ≡ 64 * i + 64 = omega arith in
    ap (λ n. drop n cut) e ∙ sym (drop-drop 64 (64 * i) cut)

one_more : (cut : List ℕ) (i n : ℕ) → packet_at cut i ++ take (64 * n) (drop (64 * (i + 1)) cut) ≡ take (64 * suc n) (drop (64 * i) cut)
one_more cut i n =
    let e : 64 + 64 * n ≡ 64 * suc n = omega arith in
    ap (λ rest. packet_at cut i ++ take (64 * n) rest) (next_place cut i)
    ∙ sym (take-add 64 (64 * n) (drop (64 * i) cut))
    ∙ ap (λ k. take k (drop (64 * i) cut)) e

joined : (cut : List ℕ) (i n : ℕ) → concat (map (packet_at cut) (numbers_from i n)) ≡ take (64 * n) (drop (64 * i) cut)
joined cut i zero = refl
joined cut i (suc n) = ap (λ rest. packet_at cut i ++ rest) (joined cut (i + 1) n) ∙ one_more cut i n

-- the size of packet number i
size_at : (cut : List ℕ) (i : ℕ) → length (packet_at cut i) ≡ min 64 (length cut - 64 * i)
size_at cut i = length-take 64 (drop (64 * i) cut) ∙ ap (min 64) (length-drop (64 * i) cut)

full : (cut : List ℕ) (i n : ℕ) → 64 * (i + n) ≤ length cut + 64 → FullButLast 64 (map (packet_at cut) (numbers_from i n))
full cut i zero h = tt
full cut i (suc zero) h = tt
full cut i (suc (suc n)) h = (omega (arith, size_at cut i), full cut (i + 1) (suc n) (omega arith))

most : (cut : List ℕ) (i n : ℕ) → AllByRecursion (λ packet. length packet ≤ 64) (map (packet_at cut) (numbers_from i n))
most cut i zero = tt
most cut i (suc n) = (omega (arith, size_at cut i), most cut (i + 1) n)

last : (cut : List ℕ) (P : List ℕ → Type 0) (i n : ℕ) → ((packet : List ℕ) → 0 < n → length packet ≡ min 64 (length cut - 64 * (i + n - 1)) → P packet) → Last P (map (packet_at cut) (numbers_from i n))
last cut P i zero h = tt
last cut P i (suc zero) h = h (packet_at cut i) (omega arith) (size_at cut i ∙ ap (λ k. min 64 (length cut - 64 * k)) (same i))
  where
    same : (i : ℕ) → i ≡ i + 1 - 1
    same i = omega arith
last cut P i (suc (suc n)) h =
    last cut P (i + 1) (suc n) (λ packet some e. h packet (omega arith) (e ∙ ap (λ k. min 64 (length cut - 64 * k)) (same i n)))
  where
    same : (i n : ℕ) → i + 1 + suc n - 1 ≡ i + suc (suc n) - 1
    same i n = omega arith

-- the count is what the data and the host want
count_enough : (n allowed : ℕ) → n ≤ 64 * packet_count n allowed
count_enough n allowed = grind (arith, nat_tests)

count_least : (n allowed : ℕ) → 64 * packet_count n allowed ≤ n + 64
count_least n allowed = grind (arith, nat_tests)

-- where the host has less than it asked for, the last packet isn't full; else it isn't empty
short : (n allowed : ℕ) → n < allowed → n < 64 * packet_count n allowed
short n allowed h = grind (arith, nat_tests)

needed : (n allowed : ℕ) → allowed ≤ n → 64 * packet_count n allowed < n + 64
needed n allowed h = grind (arith, nat_tests)

some_packet : (n allowed : ℕ) → n ≤ allowed → 0 < allowed → 0 < packet_count n allowed
some_packet n allowed h k = grind (arith, nat_tests)

many : (cut : List ℕ) (i n : ℕ) → length (map (packet_at cut) (numbers_from i n)) ≡ n
many cut i zero = refl
many cut i (suc n) = ap suc (many cut (i + 1) n)

whole : (bytes : List ℕ) (asked : ℕ) → concat (data_packets bytes asked) ≡ take asked bytes
whole bytes asked =
    let count = packet_count (min (length bytes) asked) asked in
    let all : length (take asked bytes) ≤ 64 * count = omega (arith, length-take asked bytes, count_enough (min (length bytes) asked) asked) in
    joined (take asked bytes) 0 count ∙ take_all (64 * count) (take asked bytes) all

less_or_same : (n asked : ℕ) → n ≤ asked → (n < asked) ⊎ (n ≡ asked)
less_or_same n asked h = grind arith

-- the last packet, by its size
ended_by : (bytes : List ℕ) (asked : ℕ) (packet : List ℕ)
    → length packet ≡ min 64 (length (take asked bytes) - 64 * (0 + packet_count (min (length bytes) asked) asked - 1))
    → (length packet < 64) ⊎ (length (concat (data_packets bytes asked)) ≡ asked)
ended_by bytes asked packet e = elim (less_or_same (min (length bytes) asked) asked (omega arith)) [
  | inl less ↦ inl (omega (arith, length-take asked bytes, short (min (length bytes) asked) asked less))
  | inr same ↦ inr (ap length (whole bytes asked) ∙ length-take asked bytes ∙ last_step bytes asked same)
]
  where
    last_step : (bytes : List ℕ) (asked : ℕ) → min (length bytes) asked ≡ asked → min asked (length bytes) ≡ asked
    last_step bytes asked h = omega arith

empty_by : (bytes : List ℕ) (asked : ℕ) (packet : List ℕ) → 0 < packet_count (min (length bytes) asked) asked
    → length packet ≡ min 64 (length (take asked bytes) - 64 * (0 + packet_count (min (length bytes) asked) asked - 1))
    → length packet ≡ 0 → length bytes < asked
empty_by bytes asked packet some e empty = elim (more_or_less asked (length bytes)) [
  | inl more ↦ absurd (omega (arith, length-take asked bytes, needed (min (length bytes) asked) asked (omega arith)))
  | inr less ↦ less
]
  where
    more_or_less : (a b : ℕ) → (a ≤ b) ⊎ (b < a)
    more_or_less a b = grind arith

pub stages : DataStages
stages bytes asked =
    let n = min (length bytes) asked in
    let count = packet_count n asked in
    let cut = take asked bytes in
    let size : length cut ≡ n = omega (arith, length-take asked bytes) in
    record {
      joined = whole bytes asked;
      full = full cut 0 count (omega (arith, count_least n asked));
      most = most cut 0 count;
      ended = last cut (λ packet. (length packet < 64) ⊎ (length (concat (data_packets bytes asked)) ≡ asked)) 0 count
          (λ packet some e. ended_by bytes asked packet e);
      none_more = last cut (λ packet. length packet ≡ 0 → length bytes < asked) 0 count (λ packet some e empty. empty_by bytes asked packet some e empty);
    }

pub long_is_not_one : LongIsNotOne
long_is_not_one bytes asked long is = let most : length bytes ≤ 64 = is.most.0 in omega (arith, most, long)

pub some : HasPacket
some bytes asked h =
    subst (λ k. 0 < k) (sym (many (take asked bytes) 0 (packet_count (min (length bytes) asked) asked)))
    (some_packet (min (length bytes) asked) asked (omega arith) h)

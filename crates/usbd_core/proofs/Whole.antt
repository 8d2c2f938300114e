-- The packets of a data stage make up its data.
use Rattle.std.proofs.Common.{◌≡◌, ℕ, zero, suc, ◌+◌, ◌*◌, ◌≤◌, ◌++◌, List, length, take, drop, map, min, ap, sym, refl, ◌∙◌, arith}
use Rattle.std.specs.List.{concat}
use Rattle.std.proofs.Math.Seq.{take-add}
use Rattle.std.proofs.lemmas.List.{length-take, take_all, drop-drop}
use Rattle.std.proofs.lemmas.Bool.Decides.{nat_tests}
use Rattle.device_machine.specs.Packets.{packet_count, packet_at, numbers_from, data_packets}

next_place : (cut : List ℕ) (i : ℕ) → drop (64 * (i + 1)) cut ≡ drop 64 (drop (64 * i) cut)
next_place cut i =
    let e : 64 * (i + 1) ≡ 64 * i + 64 = omega arith in
    ap (λ n. drop n cut) e ∙ sym (drop-drop 64 (64 * i) cut)

one_more : (cut : List ℕ) (i n : ℕ) → packet_at cut i ++ take (64 * n) (drop (64 * (i + 1)) cut) ≡ take (64 * suc n) (drop (64 * i) cut)
one_more cut i n =
    let e : 64 + 64 * n ≡ 64 * suc n = omega arith in
    ap (λ rest. packet_at cut i ++ take (64 * n) rest) (next_place cut i)
    ∙ sym (take-add 64 (64 * n) (drop (64 * i) cut))
    ∙ ap (λ k. take k (drop (64 * i) cut)) e

joined : (cut : List ℕ) (i n : ℕ) → concat (map (packet_at cut) (numbers_from i n)) ≡ take (64 * n) (drop (64 * i) cut)
joined cut i zero = refl
joined cut i (suc n) = ap (λ rest. packet_at cut i ++ rest) (joined cut (i + 1) n) ∙ one_more cut i n

enough : (n allowed : ℕ) → n ≤ 64 * packet_count n allowed
enough n allowed = grind (arith, nat_tests)

pub whole : (bytes : List ℕ) (allowed : ℕ) → concat (data_packets bytes allowed) ≡ take allowed bytes
whole bytes allowed =
    let n = min (length bytes) allowed in
    let all : length (take allowed bytes) ≤ 64 * packet_count n allowed = omega (arith, length-take allowed bytes, enough n allowed) in
    joined (take allowed bytes) 0 (packet_count n allowed) ∙ take_all (64 * packet_count n allowed) (take allowed bytes) all

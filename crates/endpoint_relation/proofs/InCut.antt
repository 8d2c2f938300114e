-- The packets of a transfer, two by two.
use Rattle.std.proofs.Common.{◌≡◌, ℕ, zero, suc, ◌*◌, ◌-◌, ◌<◌, ◌≤◌, List, [], ◌∷◌, length, take, drop, min, refl, ap, ◌∙◌, sym, inl, inr, arith, subst, length-take-le, length-drop, drop-drop}
use Rattle.std.specs.Prelude.{◌⊎◌}
use Rattle.device_pipe.specs.InPipe.{cut}
use Rattle.device_pipe.proofs.Cut.{single, more}
use Rattle.endpoint_relation.specs.InRelation.{packets_if}

pub le_or_more : (n m : ℕ) → (n ≤ m) ⊎ (m < n)
le_or_more n m = grind arith

-- the packets that are loaded together

pub data Batch (size : ℕ) : List (List ℕ) → Type 0 where
  empty : Batch size ([] ∷ [])
  last : (a : List ℕ) → 1 ≤ length a → length a ≤ size → Batch size (a ∷ [])
  two : (a b : List ℕ) → length a ≡ size → 1 ≤ length b → length b ≤ size → Batch size (a ∷ b ∷ [])

-- what remains behind them: nothing, or the packets of the bytes behind them
pub record Cut2 (size : ℕ) (bytes : List ℕ) (packets : List (List ℕ)) : Type 0 where
  pub batch : Batch size (take 2 packets)
  pub rest : drop (min 2 (length packets)) packets ≡ packets_if (length packets - min 2 (length packets)) size (drop (min 2 (length packets) * size) bytes)

cut_one : (size : ℕ) (bytes : List ℕ) → length bytes ≤ size → Cut2 size bytes (bytes ∷ [])
cut_one size [] h = record { batch = empty; rest = refl }
cut_one size (b ∷ bytes) h = record { batch = last (b ∷ bytes) (omega arith) h; rest = refl }

cut_two : (size : ℕ) (bytes rest : List ℕ) → 1 ≤ size → size < length bytes → length rest ≤ size → 1 ≤ length rest → Cut2 size bytes (take size bytes ∷ rest ∷ [])
cut_two size bytes rest s h k l = record { batch = two (take size bytes) rest (length-take-le size bytes (omega arith)) l k; rest = refl }

pub some_packets : (n size : ℕ) (bytes : List ℕ) → 1 ≤ n → packets_if n size bytes ≡ cut size bytes
some_packets zero size bytes h = absurd (omega arith)
some_packets (suc n) size bytes h = refl

cut_more : (size : ℕ) (bytes a b : List ℕ) (packets : List (List ℕ)) → 1 ≤ size → length a ≡ size → length b ≡ size → packets ≡ cut size (drop (2 * size) bytes) → 1 ≤ length packets
    → Cut2 size bytes (a ∷ b ∷ packets)
cut_more size bytes a b packets s h k is some =
    let all = a ∷ b ∷ packets in
    let two_of : min 2 (length all) ≡ 2 = omega arith in
    record {
      batch = two a b h (omega arith) (omega arith);
      rest =
          ap (λ n. drop n all) two_of ∙ is ∙ sym (some_packets (length all - 2) size (drop (2 * size) bytes) (omega arith))
          ∙ ap (λ n. packets_if (length all - n) size (drop (n * size) bytes)) (sym two_of);
    }

pub some_cut : (size : ℕ) (bytes : List ℕ) → 1 ≤ size → 1 ≤ length (cut size bytes)
some_cut size bytes s = elim (le_or_more (length bytes) size) [
  | inl few ↦ let e = ap length (single size bytes few) in omega (arith, e)
  | inr many ↦ let e = ap length (more size bytes s many) in omega (arith, e)
]

cut_longer : (size : ℕ) (bytes : List ℕ) → 1 ≤ size → size < length bytes → Cut2 size bytes (take size bytes ∷ cut size (drop size bytes))
cut_longer size bytes s h =
    let rest = drop size bytes in
    let front : length (take size bytes) ≡ size = length-take-le size bytes (omega arith) in
    let len : length rest ≡ length bytes - size = length-drop size bytes in
    elim (le_or_more (length rest) size) [
      | inl few ↦
          subst (λ ps. Cut2 size bytes (take size bytes ∷ ps)) (sym (single size rest few))
          (cut_two size bytes rest s h few (omega (arith, len)))
      | inr many ↦
          let behind : drop size rest ≡ drop (2 * size) bytes = drop-drop size size bytes ∙ ap (λ n. drop n bytes) (omega arith) in
          subst (λ ps. Cut2 size bytes (take size bytes ∷ ps)) (sym (more size rest s many))
          (cut_more size bytes (take size bytes) (take size rest) (cut size (drop size rest)) s front (length-take-le size rest (omega arith)) (ap (cut size) behind) (some_cut size (drop size rest) s))
    ]

-- the packets of some bytes
pub cut2 : (size : ℕ) (bytes : List ℕ) → 1 ≤ size → Cut2 size bytes (cut size bytes)
cut2 size bytes s = elim (le_or_more (length bytes) size) [
  | inl few ↦ subst (Cut2 size bytes) (sym (single size bytes few)) (cut_one size bytes few)
  | inr many ↦ subst (Cut2 size bytes) (sym (more size bytes s many)) (cut_longer size bytes s many)
]

-- so many packets are left: no more are behind those that are loaded
pub rest_left : (left size : ℕ) (bytes : List ℕ) → 1 ≤ size → left ≡ length (packets_if left size bytes)
    → drop (min 2 left) (packets_if left size bytes) ≡ packets_if (left - min 2 left) size (drop (min 2 left * size) bytes)
rest_left zero size bytes s h = refl
rest_left (suc left) size bytes s h =
    ap (λ n. drop (min 2 n) (cut size bytes)) h ∙ (cut2 size bytes s).rest
    ∙ ap (λ n. packets_if (n - min 2 n) size (drop (min 2 n * size) bytes)) (sym h)

pub first_left : (left size : ℕ) (bytes : List ℕ) → 1 ≤ size → 1 ≤ left → Batch size (take 2 (packets_if left size bytes))
first_left zero size bytes s h = absurd (omega arith)
first_left (suc left) size bytes s h = (cut2 size bytes s).batch

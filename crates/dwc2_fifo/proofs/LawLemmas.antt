-- A packet's words, given one after another, are its bytes.
use Rattle.std.proofs.Common.{◌≡◌, ℕ, suc, ◌+◌, ◌-◌, ◌<◌, ◌≤◌, List, [], ◌∷◌, ◌++◌, length, get_or, refl, ap, ◌∙◌, arith, Some, None, min, true, false, append_assoc, length-append}
use Rattle.std.proofs.lemmas.Bool.{le-ltb, lt-ltb}
use Rattle.std.specs.Prelude.{nat_lt}
use Rattle.dwc2_regs.specs.Word.{word_of, bytes_of}
use Rattle.dwc2_regs.proofs.WordLemmas.{bytes_of-word_of}
use Rattle.dwc2_fifo.specs.Words.{words_of}
use Rattle.dwc2_fifo.specs.Tx.{Tx, begun_in, with_word, with_words, bytes_with}
use Rattle.dwc2_fifo.proofs.WordsLemmas.{four_below}

-- a FIFO whose begun packet has these bytes, and one in which it is whole
abbrev begun_with : Tx → ℕ → ℕ → List ℕ → Tx
begun_with tx tag wanted bytes = record tx { unfinished = Some (record { tag = tag; length_wanted = wanted; bytes = bytes }) }

abbrev whole_with : Tx → ℕ → List ℕ → Tx
whole_with tx tag bytes = record tx { packets = tx.packets ++ record { tag = tag; bytes = bytes } ∷ []; unfinished = None }

-- a word of up to four bytes brings them
brings : (tag wanted : ℕ) (front bytes : List ℕ) → length bytes ≤ 4 → ((i : ℕ) → get_or bytes i 0 < 256)
    → min (wanted - length front) 4 ≡ length bytes
    → bytes_with (record { tag = tag; length_wanted = wanted; bytes = front }) (word_of bytes) ≡ front ++ bytes
brings tag wanted front bytes h below count =
    let With : ℕ → List ℕ = λ n. front ++ bytes_of n (word_of bytes) in
    let Front : List ℕ → List ℕ = λ xs. front ++ xs in
    ap With count ∙ ap Front (bytes_of-word_of bytes below)

last_word : (tx : Tx) (tag wanted : ℕ) (front bytes : List ℕ) → 1 ≤ length bytes → length bytes ≤ 4 → ((i : ℕ) → get_or bytes i 0 < 256)
    → length front + length bytes ≡ wanted
    → with_word (begun_with tx tag wanted front) (word_of bytes) ≡ whole_with tx tag (front ++ bytes)
last_word tx tag wanted front bytes some few below sum =
    let all = brings tag wanted front bytes few below (omega arith) in
    let as_long = ap length all ∙ length-append front bytes in
    let full : nat_lt (length (bytes_with (record { tag = tag; length_wanted = wanted; bytes = front }) (word_of bytes))) wanted ≡ false = le-ltb _ _ (omega (arith, as_long)) in
    rw full (ap (whole_with tx tag) all)

earlier_word : (tx : Tx) (tag wanted : ℕ) (front bytes : List ℕ) → length bytes ≡ 4 → ((i : ℕ) → get_or bytes i 0 < 256)
    → length front + 4 < wanted
    → with_word (begun_with tx tag wanted front) (word_of bytes) ≡ begun_with tx tag wanted (front ++ bytes)
earlier_word tx tag wanted front bytes four below sum =
    let all = brings tag wanted front bytes (omega arith) below (omega arith) in
    let as_long = ap length all ∙ length-append front bytes in
    let lacks : nat_lt (length (bytes_with (record { tag = tag; length_wanted = wanted; bytes = front }) (word_of bytes))) wanted ≡ true = lt-ltb _ _ (omega (arith, as_long)) in
    rw lacks (ap (begun_with tx tag wanted) all)

all_words : (tx : Tx) (tag wanted : ℕ) (front bytes : List ℕ) → 1 ≤ length bytes → ((i : ℕ) → get_or bytes i 0 < 256)
    → length front + length bytes ≡ wanted
    → with_words (begun_with tx tag wanted front) (words_of bytes) ≡ whole_with tx tag (front ++ bytes)
all_words tx tag wanted front [] some below sum = absurd (omega arith)
all_words tx tag wanted front (a ∷ []) some below sum = last_word tx tag wanted front (a ∷ []) (omega arith) (omega arith) below sum
all_words tx tag wanted front (a ∷ b ∷ []) some below sum = last_word tx tag wanted front (a ∷ b ∷ []) (omega arith) (omega arith) below sum
all_words tx tag wanted front (a ∷ b ∷ c ∷ []) some below sum = last_word tx tag wanted front (a ∷ b ∷ c ∷ []) (omega arith) (omega arith) below sum
all_words tx tag wanted front (a ∷ b ∷ c ∷ d ∷ []) some below sum = last_word tx tag wanted front (a ∷ b ∷ c ∷ d ∷ []) (omega arith) (omega arith) below sum
all_words tx tag wanted front (a ∷ b ∷ c ∷ d ∷ e ∷ bytes) some below sum =
    let four = a ∷ b ∷ c ∷ d ∷ [] in
    let longer = length-append front four in
    let Then : Tx → Tx = λ now. with_words now (words_of (e ∷ bytes)) in
    ap Then (earlier_word tx tag wanted front four refl (four_below a b c d (below 0) (below 1) (below 2) (below 3)) (omega arith))
    ∙ all_words tx tag wanted (front ++ four) (e ∷ bytes) (omega arith) (λ i. below (suc (suc (suc (suc i))))) (omega arith)
    ∙ ap (whole_with tx tag) (append_assoc front four (e ∷ bytes))

pub packet_comes_out : (tx : Tx) (tag : ℕ) (bytes : List ℕ) → 1 ≤ length bytes → ((i : ℕ) → get_or bytes i 0 < 256)
    → with_words (begun_in tx tag (length bytes)) (words_of bytes) ≡ whole_with tx tag bytes
packet_comes_out tx tag bytes some below = all_words tx tag (length bytes) [] bytes some below (omega arith)

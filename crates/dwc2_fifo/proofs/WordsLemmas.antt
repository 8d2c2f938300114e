-- The words of a packet, one after another, and that they are its bytes.
use Rattle.std.proofs.Common.{◌≡◌, ℕ, zero, suc, ◌<◌, ◌≤◌, List, [], ◌∷◌, ◌++◌, length, get_or, take, drop, refl, ap, sym, ◌∙◌, arith, min, append-nil}
use Rattle.dwc2_regs.specs.Word.{word_of, bytes_of}
use Rattle.dwc2_regs.proofs.WordLemmas.{bytes_of-word_of, take-bytes_of}
use Rattle.dwc2_fifo.specs.Words.{words_of, word_count, bytes_in}

-- the first word is that of up to four bytes, the others are those of the rest
pub words_of-split : (bytes : List ℕ) → 0 < length bytes
    → words_of bytes ≡ word_of (take (min (length bytes) 4) bytes) ∷ words_of (drop (min (length bytes) 4) bytes)
words_of-split [] h = absurd (omega arith)
words_of-split (a ∷ []) h = refl
words_of-split (a ∷ b ∷ []) h = refl
words_of-split (a ∷ b ∷ c ∷ []) h = refl
words_of-split (a ∷ b ∷ c ∷ d ∷ bytes) h =
    let whole : min (length (a ∷ b ∷ c ∷ d ∷ bytes)) 4 ≡ 4 = omega arith in
    let Split : ℕ → List ℕ = λ n. word_of (take n (a ∷ b ∷ c ∷ d ∷ bytes)) ∷ words_of (drop n (a ∷ b ∷ c ∷ d ∷ bytes)) in
    sym (ap Split whole)

pub length-words_of : (bytes : List ℕ) → length (words_of bytes) ≡ word_count (length bytes)
length-words_of [] = refl
length-words_of (a ∷ []) = refl
length-words_of (a ∷ b ∷ []) = refl
length-words_of (a ∷ b ∷ c ∷ []) = refl
length-words_of (a ∷ b ∷ c ∷ d ∷ bytes) = let ih = length-words_of bytes in omega arith

pub four_below : (a b c d : ℕ) → a < 256 → b < 256 → c < 256 → d < 256 → (i : ℕ) → get_or (a ∷ b ∷ c ∷ d ∷ []) i 0 < 256
four_below a b c d ha hb hc hd zero = ha
four_below a b c d ha hb hc hd (suc zero) = hb
four_below a b c d ha hb hc hd (suc (suc zero)) = hc
four_below a b c d ha hb hc hd (suc (suc (suc zero))) = hd
four_below a b c d ha hb hc hd (suc (suc (suc (suc i)))) = omega arith

-- up to four bytes are the first in their word
one_word : (bytes : List ℕ) → ((i : ℕ) → get_or bytes i 0 < 256) → length bytes ≤ 4 → take (length bytes) (bytes_of 4 (word_of bytes) ++ []) ≡ bytes
one_word bytes h within =
    ap (take (length bytes)) (append-nil (bytes_of 4 (word_of bytes)))
    ∙ take-bytes_of (length bytes) 4 (word_of bytes) within
    ∙ bytes_of-word_of bytes h

-- the bytes in the words are the packet's, and filling behind them
pub bytes_in-words_of : (bytes : List ℕ) → ((i : ℕ) → get_or bytes i 0 < 256) → take (length bytes) (bytes_in (words_of bytes)) ≡ bytes
bytes_in-words_of [] h = refl
bytes_in-words_of (a ∷ []) h = one_word (a ∷ []) h (omega arith)
bytes_in-words_of (a ∷ b ∷ []) h = one_word (a ∷ b ∷ []) h (omega arith)
bytes_in-words_of (a ∷ b ∷ c ∷ []) h = one_word (a ∷ b ∷ c ∷ []) h (omega arith)
bytes_in-words_of (a ∷ b ∷ c ∷ d ∷ bytes) h =
    let first : bytes_of 4 (word_of (a ∷ b ∷ c ∷ d ∷ [])) ≡ a ∷ b ∷ c ∷ d ∷ [] =
    bytes_of-word_of (a ∷ b ∷ c ∷ d ∷ []) (four_below a b c d (h 0) (h 1) (h 2) (h 3)) in
    let rest : take (length bytes) (bytes_in (words_of bytes)) ≡ bytes = bytes_in-words_of bytes (λ i. h (suc (suc (suc (suc i))))) in
    let Taken : List ℕ → List ℕ = λ xs. take (length (a ∷ b ∷ c ∷ d ∷ bytes)) (xs ++ bytes_in (words_of bytes)) in
    let Four : List ℕ → List ℕ = λ xs. a ∷ b ∷ c ∷ d ∷ xs in
    ap Taken first ∙ ap Four rest

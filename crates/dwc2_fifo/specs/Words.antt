-- Bytes as the words of a FIFO.
use Rattle.std.specs.Prelude.{ℕ, ◌+◌, ◌/◌, List, [], ◌∷◌, ◌++◌}
use Rattle.dwc2_regs.specs.Word.{word_of, bytes_of}

-- the words of a packet: four bytes each, the lowest first, and the last filled with 0
abbrev pub words_of : List ℕ → List ℕ
words_of (a ∷ b ∷ c ∷ d ∷ bytes) = word_of (a ∷ b ∷ c ∷ d ∷ []) ∷ words_of bytes
words_of [] = []
words_of bytes = word_of bytes ∷ []

-- how many words that many bytes take
abbrev pub word_count : ℕ → ℕ
word_count n = (n + 3) / 4

-- the bytes of these words, the filling too
abbrev pub bytes_in : List ℕ → List ℕ
bytes_in [] = []
bytes_in (word ∷ words) = bytes_of 4 word ++ bytes_in words

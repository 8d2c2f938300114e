-- What a receive FIFO is to its callers.
use Rattle.std.specs.Prelude.{◌≡◌, ℕ, ◌+◌, ◌-◌, List, [], ◌∷◌, ◌++◌, length}

-- a status word, and the words of data that are read behind it
pub record Entry : Type 0 where
  pub status : ℕ
  pub words : List ℕ

pub record Rx : Type 0 where
  -- the words that are left of the entry that was popped last
  pub left : List ℕ
  -- the entries behind it, the oldest first
  pub entries : List Entry
  -- how many words the FIFO has place for
  pub depth : ℕ

-- an entry takes a word for its status, and its words
abbrev pub words_in : List Entry → ℕ
words_in [] = 0
words_in (entry ∷ entries) = 1 + length entry.words + words_in entries

-- the words for which there is no place any more
abbrev pub words_used : Rx → ℕ
words_used rx = length rx.left + words_in rx.entries

-- how many more words there is place for
abbrev pub room_of : Rx → ℕ
room_of rx = rx.depth - words_used rx

abbrev pub IsEmpty : Rx → Type 0
IsEmpty rx = (rx.left ≡ []) × (rx.entries ≡ [])

-- with an entry behind the others
abbrev pub pushed : Rx → Entry → Rx
pushed rx entry = record rx { entries = rx.entries ++ entry ∷ [] }

-- the status of the first entry, 0 where there is none
abbrev pub first_status : List Entry → ℕ
first_status [] = 0
first_status (entry ∷ entries) = entry.status

-- the first entry is popped: its words are left, and what was left of the one before is dropped; where there is no
-- entry nothing changes
abbrev pub popped_from : Rx → List Entry → Rx
popped_from rx [] = rx
popped_from rx (entry ∷ entries) = record rx { left = entry.words; entries = entries }

abbrev pub popped : Rx → Rx
popped rx = popped_from rx rx.entries

-- the next word of the popped entry, 0 where none is left
abbrev pub first_word : List ℕ → ℕ
first_word [] = 0
first_word (word ∷ words) = word

abbrev pub words_behind : List ℕ → List ℕ
words_behind [] = []
words_behind (word ∷ words) = words

abbrev pub word_taken : Rx → Rx
word_taken rx = record rx { left = words_behind rx.left }

-- a FIFO of that depth with nothing in it
abbrev pub empty_of : ℕ → Rx
empty_of depth = record { left = []; entries = []; depth = depth }

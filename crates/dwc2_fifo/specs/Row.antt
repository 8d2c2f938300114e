-- How a row of 1,024 slots holds the words in use: from the oldest on, and past the last slot from the first on. The
-- words of a receive FIFO among them: those that are left of the entry that was popped, and then each status with as
-- many words behind it as stand in its slot.
use Rattle.std.specs.Prelude.{◌≡◌, ℕ, zero, suc, ◌<◌, ◌≤◌, List, [], ◌∷◌, ◌++◌, length, take, drop}
use Rattle.dwc2_fifo.specs.declared.slots.Slot.{Slot}
use Rattle.dwc2_fifo.specs.Rx.{Entry, Rx}

-- the n slots from slot `oldest` on, around the end
abbrev pub held : ℕ → ℕ → List Slot → List Slot
held oldest n slots = take n (drop oldest slots ++ take oldest slots)

pub record IsRow (slots : List Slot) (oldest len : ℕ) : Type 0 where
  pub counted : length slots ≡ 1024
  pub starts_inside : oldest < 1024
  pub fits : len ≤ 1024

-- words of data as slots, and the words in slots
abbrev pub data_slots : List ℕ → List Slot
data_slots [] = []
data_slots (word ∷ words) = record { word = word; behind = 0 } ∷ data_slots words

abbrev pub words_at : List Slot → List ℕ
words_at [] = []
words_at (slot ∷ slots) = slot.word ∷ words_at slots

-- the data in the first n slots
abbrev pub left_in : List Slot → ℕ → List ℕ
left_in slots n = take n (words_at slots)

-- behind n words of data each status with its words
abbrev pub entries_in : List Slot → ℕ → List Entry
entries_in [] n = []
entries_in (slot ∷ slots) zero = record { status = slot.word; words = left_in slots slot.behind } ∷ entries_in slots slot.behind
entries_in (slot ∷ slots) (suc n) = entries_in slots n

-- n words of data stand in front, and behind each status all its words
abbrev pub AreWhole : List Slot → ℕ → Type 0
AreWhole [] n = n ≡ 0
AreWhole (slot ∷ slots) zero = AreWhole slots slot.behind
AreWhole (slot ∷ slots) (suc n) = AreWhole slots n

-- the receive FIFO that these slots hold
abbrev pub rx_of : List Slot → ℕ → ℕ → Rx
rx_of slots left depth = record { left = left_in slots left; entries = entries_in slots left; depth = depth }

pub record IsFifo (slots : List Slot) (left depth : ℕ) : Type 0 where
  pub whole : AreWhole slots left
  pub fits : length slots ≤ depth
  pub most : depth ≤ 1024

-- The entries and the words that are left, as the slots in use hold them.
use Rattle.std.proofs.Common.{◌≡◌, ◌≢◌, ℕ, zero, suc, ◌+◌, ◌-◌, ◌≤◌, List, [], ◌∷◌, ◌++◌, length, drop, refl, ap, ap₂, sym, subst, ◌∙◌, arith, Some, None}
use Rattle.std.proofs.lemmas.Bool.{eq-eqb, ne_eqb, false≢true}
use Rattle.std.specs.Prelude.{Bool, true, false, not, nat_eq, IsTrue, slice_get}
use Rattle.dwc2_fifo.specs.declared.slots.Slot.{Slot}
use Rattle.dwc2_fifo.specs.Row.{data_slots, left_in, entries_in, AreWhole, rx_of}
use Rattle.dwc2_fifo.specs.Rx.{Entry, Rx, words_in, first_status, popped, pushed, first_word, word_taken}

-- counts

pub AreWhole-le : (slots : List Slot) (n : ℕ) → AreWhole slots n → n ≤ length slots
AreWhole-le [] n h = omega (arith, h)
AreWhole-le (slot ∷ slots) zero h = omega arith
AreWhole-le (slot ∷ slots) (suc n) h = let ih = AreWhole-le slots n h in omega arith

pub length-data_slots : (words : List ℕ) → length (data_slots words) ≡ length words
length-data_slots [] = refl
length-data_slots (word ∷ words) = ap suc (length-data_slots words)

-- the words left and those of the entries are all the slots in use
pub length-left_in-words_in : (slots : List Slot) (n : ℕ) → AreWhole slots n → length (left_in slots n) + words_in (entries_in slots n) ≡ length slots
length-left_in-words_in [] zero h = refl
length-left_in-words_in [] (suc n) h = refl
length-left_in-words_in (slot ∷ slots) zero h = let ih = length-left_in-words_in slots slot.behind h in omega arith
length-left_in-words_in (slot ∷ slots) (suc n) h = let ih = length-left_in-words_in slots n h in omega arith

-- the first entry

-- the slot behind the data in front is the first entry's status
pub entries_in-at : (slots : List Slot) (n : ℕ) (slot : Slot) → slice_get slots n ≡ Some slot
    → entries_in slots n ≡ record { status = slot.word; words = left_in (drop (suc n) slots) slot.behind } ∷ entries_in (drop (suc n) slots) slot.behind
entries_in-at [] n slot h = cc
entries_in-at (first ∷ slots) zero slot h =
    let same : first ≡ slot = cc in
    let Made : Slot → List Entry = λ s. record { status = s.word; words = left_in slots s.behind } ∷ entries_in slots s.behind in
    ap Made same
entries_in-at (first ∷ slots) (suc n) slot h = entries_in-at slots n slot h

pub entries_in-none : (slots : List Slot) (n : ℕ) → slice_get slots n ≡ None → entries_in slots n ≡ []
entries_in-none [] n h = refl
entries_in-none (slot ∷ slots) zero h = cc
entries_in-none (slot ∷ slots) (suc n) h = entries_in-none slots n h

pub AreWhole-at : (slots : List Slot) (n : ℕ) (slot : Slot) → AreWhole slots n → slice_get slots n ≡ Some slot → AreWhole (drop (suc n) slots) slot.behind
AreWhole-at [] n slot whole h = cc
AreWhole-at (first ∷ slots) zero slot whole h =
    let same : first ≡ slot = cc in
    let P : Slot → Type 0 = λ s. AreWhole slots s.behind in
    subst P same whole
AreWhole-at (first ∷ slots) (suc n) slot whole h = AreWhole-at slots n slot whole h

pub first_status-at : (slots : List Slot) (n : ℕ) (slot : Slot) → slice_get slots n ≡ Some slot → first_status (entries_in slots n) ≡ slot.word
first_status-at slots n slot h = ap first_status (entries_in-at slots n slot h)

pub first_status-none : (slots : List Slot) (n : ℕ) → slice_get slots n ≡ None → first_status (entries_in slots n) ≡ 0
first_status-none slots n h = ap first_status (entries_in-none slots n h)

-- once it is popped its words are left
pub popped-at : (slots : List Slot) (n depth : ℕ) (slot : Slot) → slice_get slots n ≡ Some slot
    → rx_of (drop (suc n) slots) slot.behind depth ≡ popped (rx_of slots n depth)
popped-at slots n depth slot h = rw (entries_in-at slots n slot h) refl

pub popped-none : (slots : List Slot) (n depth : ℕ) → slice_get slots n ≡ None → rx_of slots n depth ≡ popped (rx_of slots n depth)
popped-none slots n depth h = rw (entries_in-none slots n h) refl

-- whether it can be popped
abbrev pub Ready : Bool → Rx → Type 0
Ready test rx = (IsTrue test → (rx.left ≡ []) × (rx.entries ≢ [])) × ((rx.left ≡ []) × (rx.entries ≢ []) → IsTrue test)

pub Ready-none_left : (slots : List Slot) (n len depth : ℕ) → n ≡ 0 → len ≡ length slots → Ready (not (nat_eq len 0)) (rx_of slots n depth)
Ready-none_left [] n len depth none count = (λ t. let wrong : false ≡ true = sym (ap not (eq-eqb len 0 count)) ∙ t in absurd (false≢true wrong), λ both. absurd (both.1 refl))
Ready-none_left (slot ∷ slots) n len depth none count =
    let some : len ≢ 0 = omega arith in
    (λ t. (rw none refl, rw none (λ e. cc)), λ both. ap not (ne_eqb len 0 some))

pub Ready-left : (slots : List Slot) (n depth : ℕ) → AreWhole slots n → n ≢ 0 → Ready (nat_eq n 0) (rx_of slots n depth)
Ready-left slots zero depth whole some = absurd (some refl)
Ready-left [] (suc n) depth whole some = absurd (some whole)
Ready-left (slot ∷ slots) (suc n) depth whole some = (λ t. let wrong : false ≡ true = sym (ne_eqb (suc n) 0 some) ∙ t in absurd (false≢true wrong), λ both. let wrong = both.0 in cc)

-- the next word of the popped entry

pub first_word-at : (slots : List Slot) (n : ℕ) (slot : Slot) → n ≢ 0 → slice_get slots 0 ≡ Some slot → slot.word ≡ first_word (left_in slots n)
first_word-at slots zero slot some h = absurd (some refl)
first_word-at [] (suc n) slot some h = cc
first_word-at (first ∷ slots) (suc n) slot some h = let same : slot ≡ first = cc in ap (λ (s : Slot). s.word) same

pub word_taken-at : (slots : List Slot) (n depth : ℕ) (slot : Slot) → n ≢ 0 → slice_get slots 0 ≡ Some slot
    → rx_of (drop 1 slots) (n - 1) depth ≡ word_taken (rx_of slots n depth)
word_taken-at slots zero depth slot some h = absurd (some refl)
word_taken-at [] (suc n) depth slot some h = cc
word_taken-at (first ∷ slots) (suc n) depth slot some h =
    let less : suc n - 1 ≡ n = omega arith in
    ap (λ (k : ℕ). rx_of slots k depth) less

pub AreWhole-taken : (slots : List Slot) (n : ℕ) → n ≢ 0 → AreWhole slots n → AreWhole (drop 1 slots) (n - 1)
AreWhole-taken slots zero some h = absurd (some refl)
AreWhole-taken [] (suc n) some h = cc
AreWhole-taken (slot ∷ slots) (suc n) some h =
    let less : suc n - 1 ≡ n = omega arith in
    subst (AreWhole slots) (sym less) h

-- where there is none nothing changes
pub first_word-none : (slots : List Slot) (n : ℕ) → slice_get slots 0 ≡ None → 0 ≡ first_word (left_in slots n)
first_word-none [] zero h = refl
first_word-none [] (suc n) h = refl
first_word-none (slot ∷ slots) n h = cc

pub word_taken-none : (slots : List Slot) (n depth : ℕ) → slice_get slots 0 ≡ None → rx_of slots n depth ≡ word_taken (rx_of slots n depth)
word_taken-none [] zero depth h = refl
word_taken-none [] (suc n) depth h = refl
word_taken-none (slot ∷ slots) n depth h = cc

-- an entry behind the others

left_in-data_slots : (words : List ℕ) → left_in (data_slots words) (length words) ≡ words
left_in-data_slots [] = refl
left_in-data_slots (word ∷ words) = ap (λ xs. word ∷ xs) (left_in-data_slots words)

entries_in-data_slots : (words : List ℕ) → entries_in (data_slots words) (length words) ≡ []
entries_in-data_slots [] = refl
entries_in-data_slots (word ∷ words) = entries_in-data_slots words

AreWhole-data_slots : (words : List ℕ) → AreWhole (data_slots words) (length words)
AreWhole-data_slots [] = refl
AreWhole-data_slots (word ∷ words) = AreWhole-data_slots words

left_in-append : (slots more : List Slot) (n : ℕ) → n ≤ length slots → left_in (slots ++ more) n ≡ left_in slots n
left_in-append slots more zero h = refl
left_in-append [] more (suc n) h = absurd (omega arith)
left_in-append (slot ∷ slots) more (suc n) h = ap (λ xs. slot.word ∷ xs) (left_in-append slots more n (omega arith))

-- the slots of an entry
abbrev pub entry_slots : ℕ → List ℕ → List Slot
entry_slots status words = record { word = status; behind = length words } ∷ data_slots words

pub AreWhole-pushed : (slots : List Slot) (n status : ℕ) (words : List ℕ) → AreWhole slots n → AreWhole (slots ++ entry_slots status words) n
AreWhole-pushed [] n status words h = subst (AreWhole (entry_slots status words)) (sym h) (AreWhole-data_slots words)
AreWhole-pushed (slot ∷ slots) zero status words h = AreWhole-pushed slots slot.behind status words h
AreWhole-pushed (slot ∷ slots) (suc n) status words h = AreWhole-pushed slots n status words h

entries_in-pushed : (slots : List Slot) (n status : ℕ) (words : List ℕ) → AreWhole slots n
    → entries_in (slots ++ entry_slots status words) n ≡ entries_in slots n ++ record { status = status; words = words } ∷ []
entries_in-pushed [] n status words h =
    let Made : List ℕ → List Entry → List Entry = λ xs es. record { status = status; words = xs } ∷ es in
    ap (entries_in (entry_slots status words)) h ∙ ap₂ Made (left_in-data_slots words) (entries_in-data_slots words)
entries_in-pushed (slot ∷ slots) zero status words h =
    let Made : List ℕ → List Entry → List Entry = λ xs es. record { status = slot.word; words = xs } ∷ es in
    ap₂ Made (left_in-append slots (entry_slots status words) slot.behind (AreWhole-le slots slot.behind h)) (entries_in-pushed slots slot.behind status words h)
entries_in-pushed (slot ∷ slots) (suc n) status words h = entries_in-pushed slots n status words h

pub rx_of-pushed : (slots : List Slot) (n status depth : ℕ) (words : List ℕ) → AreWhole slots n
    → rx_of (slots ++ entry_slots status words) n depth ≡ pushed (rx_of slots n depth) (record { status = status; words = words })
rx_of-pushed slots n status depth words h =
    let Made : List ℕ → List Entry → Rx = λ xs es. record { left = xs; entries = es; depth = depth } in
    ap₂ Made (left_in-append slots (entry_slots status words) n (AreWhole-le slots n h)) (entries_in-pushed slots n status words h)

-- the slots in use are the words of the entries and those left, so there is place behind them
use Rattle.std.proofs.Common.{ℕ, ◌≡◌, ◌∷◌, [], ◌++◌, ap, sym, ◌∙◌, List, length, arith, append_assoc, length-append}
use Rattle.dwc2_fifo.specs.declared.slots.Slot.{Slot}
use Rattle.dwc2_fifo.specs.Words.{words_of}
use Rattle.dwc2_fifo.specs.Row.{data_slots, rx_of}
use Rattle.dwc2_fifo.specs.Rx.{Rx, room_of, pushed}
use Rattle.dwc2_fifo.proofs.RowLemmas.{entry_slots, length-left_in-words_in, length-data_slots, AreWhole-pushed, rx_of-pushed}
use Rattle.dwc2_fifo.proofs.WordsLemmas.{length-words_of, bytes_in-words_of}
use Rattle.dwc2_fifo.proofs.rx.RxFifo.push_entry.Goals as goal

pub words-requires : goal.words-requires
words-requires c =
    let q = c.self.inside in
    let same = ap room_of c.self.view_is in
    omega arith

pub push-requires : goal.push-requires
push-requires c =
    let q = c.self.inside in
    let same = ap room_of c.self.view_is in
    let counted = length-left_in-words_in q.slots q.left c.self.invariant.whole in
    omega arith

pub push_words-requires : goal.push_words-requires
push_words-requires c =
    let q = c.self.inside in
    let same = ap room_of c.self.view_is in
    let counted = length-left_in-words_in q.slots q.left c.self.invariant.whole in
    let one_more = ap (length {A = Slot}) c.push.ensures ∙ length-append q.slots _ in
    omega arith

-- what is pushed is the status with the number of its words, and these
abbrev with_entry : List Slot → ℕ → ℕ → List ℕ → List Slot
with_entry slots status behind words = (slots ++ record { word = status; behind = behind } ∷ []) ++ data_slots words

entry_pushed : (slots : List Slot) (status behind : ℕ) (words : List ℕ) → behind ≡ length words
    → with_entry slots status behind words ≡ slots ++ entry_slots status words
entry_pushed slots status behind words count =
    let With : ℕ → List Slot = λ n. with_entry slots status n words in
    ap With count ∙ append_assoc slots _ _

pub invariant_of-self : goal.invariant_of-self
invariant_of-self c =
    let q = c.self.inside in
    let words = words_of c.args.bytes.now in
    let same = ap room_of c.self.view_is in
    let counted = length-left_in-words_in q.slots q.left c.self.invariant.whole in
    let as_many = length-words_of c.args.bytes.now in
    let Behind : List Slot → List Slot = λ xs. xs ++ data_slots words in
    let all = c.push_words.ensures ∙ ap Behind c.push.ensures ∙ entry_pushed q.slots c.args.status c.words.result words (c.words.ensures ∙ sym as_many) in
    let longer = length-append q.slots (entry_slots c.args.status words) in
    let its_words = length-data_slots words in
    rw all (record { whole = AreWhole-pushed q.slots q.left c.args.status words c.self.invariant.whole; fits = omega arith; most = c.self.invariant.most })

pub returns-clause-pushed : goal.returns-clause-pushed
returns-clause-pushed c =
    let q = c.self.inside in
    let words = words_of c.args.bytes.now in
    let as_many = length-words_of c.args.bytes.now in
    let Behind : List Slot → List Slot = λ xs. xs ++ data_slots words in
    let all = c.push_words.ensures ∙ ap Behind c.push.ensures ∙ entry_pushed q.slots c.args.status c.words.result words (c.words.ensures ∙ sym as_many) in
    let Kept : List Slot → Rx = λ xs. rx_of xs q.left q.depth in
    let Pushed : Rx → Rx = λ rx. pushed rx (record { status = c.args.status; words = words }) in
    ap Kept all ∙ rx_of-pushed q.slots q.left c.args.status q.depth words c.self.invariant.whole ∙ ap Pushed c.self.view_is

pub returns-clause-undone : goal.returns-clause-undone
returns-clause-undone c = bytes_in-words_of c.args.bytes.now (λ i. (c.type_inv.bytes i).fits)
